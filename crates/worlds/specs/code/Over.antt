-- Tables with an entry for each number of a mask, and what a loop over a set of numbers does to one.
use Rattle.std.specs.Prelude.{◌≡◌, cond, List, ℕ, get_or}
use Rattle.sets.specs.paper.Sets.{has, union}

-- the entry at a number; 0 past the table
abbrev pub entry : List ℕ → ℕ → ℕ
entry table i = get_or table i 0

-- the same value at each number of a set, the others as they were; `past` stands for what is not in the table
pub record Marked {A : Type 0} (set : ℕ) (value : A) (before after : List A) : Type 0 where
  pub at : (i : ℕ) (past : A) → get_or after i past ≡ cond (has set i) value (get_or before i past)

-- the same set added at each number of a set
pub record Given (set more : ℕ) (before after : List ℕ) : Type 0 where
  pub at : (i : ℕ) → entry after i ≡ cond (has set i) (union (entry before i) more) (entry before i)
