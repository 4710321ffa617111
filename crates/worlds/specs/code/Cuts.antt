-- Steps 3 to 5 on the tables' masks, as the code goes.
use Rattle.std.specs.Prelude.{◌≡◌, not, cond, List, ℕ, eqb}
use Rattle.sets.specs.paper.Sets.{has, union, meet, minus, only, union_of, members}
use Rattle.worlds.specs.code.Over.{entry}
use Rattle.worlds.specs.code.Tables.{row}

-- the frozen edges that block a cut: that cross it, and on which it says blocked, or unresolved and false
unfoldable pub blockers : List (List ℕ) → ℕ → ℕ → ℕ → ℕ
blockers t frozen decisions c =
    meet (meet frozen (row t 7 c)) (union (row t 8 c) (union_of (row t 10) (members (minus (row t 9 c) decisions))))

-- the cuts merged with one of these that is blocked
unfoldable pub blocked_twins : List (List ℕ) → ℕ → ℕ → List ℕ → ℕ
blocked_twins t frozen decisions cs = union_of (λ c. only (not (eqb (blockers t frozen decisions c) 0)) (row t 2 c)) cs

-- at each number of a set something added to what was noted
pub record Noted (set : ℕ) (more : ℕ → ℕ) (before after : List ℕ) : Type 0 where
  pub at : (c : ℕ) → entry after c ≡ cond (has set c) (union (entry before c) (more c)) (entry before c)
