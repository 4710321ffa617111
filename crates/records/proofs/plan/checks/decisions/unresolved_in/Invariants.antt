-- The unresolved decisions of a cut, counted.
use mathlib.Core.Path.{◌≡◌}
use Prim.Native.Nat.{◌+◌, ◌-◌, ◌≤◌}
use Rattle.records.specs.paper.Plan.{unresolved_in}
use Rattle.records.specs.code.Decoded.{decisions_of}
use Rattle.records.specs.code.PlanPasses.{decisions_left}
use Rattle.records.proofs.plan.checks.decisions.unresolved_in.Given as goal

abbrev pub invariant-loop-i : goal.invariant-loop-i
invariant-loop-i l = (l.i ≤ l.n) × (l.total ≤ l.i) × (l.total + unresolved_in (decisions_left l.d l.i) ≡ unresolved_in (decisions_of l.d))
