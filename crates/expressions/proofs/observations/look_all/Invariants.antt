-- `expressions::observations::look_all` meets its contract: what is left of the list from entry i on, seen after what was seen, gives the whole.
use Prim.Native.Nat.{◌≤◌}
use mathlib.Core.Path.{◌≡◌}
use lib.ListN.{drop}
use Rattle.expressions.proofs.SeenLaws.{pairs}
use Rattle.expressions.specs.code.Sight.{look_all}
use Rattle.expressions.proofs.observations.look_all.Given as goal

abbrev pub invariant-loop-i : goal.invariant-loop-i
invariant-loop-i l = (l.i ≤ l.n) × (look_all l.s (drop l.i (pairs l.n l.values l.evidence)) ≡ look_all l.initial.s (pairs l.n l.values l.evidence))
