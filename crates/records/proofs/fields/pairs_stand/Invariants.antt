-- The pairs of a list stand in their ranges, pair after pair.
use mathlib.Core.Path.{◌≡◌}
use mathlib.Core.List.{[], ◌∷◌}
use Prim.Native.Nat.{◌-◌, ◌≤◌}
use Rattle.records.specs.paper.Fields.{bytes_at, repeat, up_to}
use Rattle.records.specs.code.Readers.{is_got}
use Rattle.records.proofs.fields.pairs_stand.Given as goal

abbrev pub invariant-loop-i : goal.invariant-loop-i
invariant-loop-i l =
    (l.i ≤ l.n) × (is_got (bytes_at l.s l.p (repeat (l.n - l.i) (up_to l.top ∷ record { low = l.low; top = l.high } ∷ []))) ≡ is_got (bytes_at l.s l.at (repeat l.n (up_to l.top ∷ record { low = l.low; top = l.high } ∷ []))))
