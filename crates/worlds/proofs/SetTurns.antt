-- A turn of a loop over the numbers of a set.
use mathlib.Core.Path.{◌≡◌, sym, ap, ◌∙◌}
use mathlib.Core.List.{◌∷◌}
use Prim.Native.Nat.{ℕ}
use Rattle.sets.specs.paper.Sets.{members}
use Rattle.sets.specs.code.Members.{Turn}

-- what is left of m at t is t and what is left behind it
pub turn-members : {m t r : ℕ} → Turn m t r → members m ≡ t ∷ members r
turn-members {m} {t} {r} turn = turn.rest.0 ∙ ap (λ (x : ℕ). x ∷ members r) (sym turn.first.0)
