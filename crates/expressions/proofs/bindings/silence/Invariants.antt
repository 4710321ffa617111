-- `expressions::bindings::silence` meets its contract: the first family that fits is among the records from i on.
use Prim.Native.Nat.{◌≤◌}
use mathlib.Core.Path.{◌≡◌}
use lib.ListN.{length}
use Rattle.expressions.proofs.FamilyLaws.{silent_from}
use Rattle.expressions.proofs.bindings.silence.Given as goal

abbrev pub invariant-loop-i : goal.invariant-loop-i
invariant-loop-i l =
    (length l.families.items ≡ 16)
    × (l.i ≤ l.n)
    × (silent_from l.families.items l.families.count l.number l.scope l.i l.i ≡ silent_from l.families.items l.families.count l.number l.scope 0 0)
