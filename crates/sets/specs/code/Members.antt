-- One turn of a loop over the numbers of a set. The contract of src/members.rt cites it.
use Rattle.std.specs.Prelude.{◌≡◌, ℕ, ◌<◌, ◌∷◌, Option, Some, None}
use Rattle.sets.specs.paper.Sets.{lowest, members}

-- p comes next of a set that is not empty, and leaves the others
pub record Turn (set p left : ℕ) : Type 0 where
  pub some : set ≡ 0 → ⊥
  pub first : (p ≡ lowest set) × (p < 64)
  pub rest : (members set ≡ lowest set ∷ members left) × (left < set)

abbrev pub NextMember : ℕ → Option ℕ → ℕ → Type 0
NextMember set None left = (set ≡ 0) × (left ≡ 0)
NextMember set (Some p) left = Turn set p left
