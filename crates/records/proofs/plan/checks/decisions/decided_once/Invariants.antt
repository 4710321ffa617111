-- No edge is decided twice.
use mathlib.Core.Path.{◌≡◌}
use Prim.Native.Nat.{◌-◌, ◌≤◌}
use Rattle.records.specs.paper.Plan.{decided_once}
use Rattle.records.specs.code.Decoded.{decisions_of}
use Rattle.records.specs.code.PlanPasses.{decisions_left}
use Rattle.records.proofs.plan.checks.decisions.decided_once.Given as goal

abbrev pub invariant-loop-i : goal.invariant-loop-i
invariant-loop-i l = (l.i ≤ l.n) × (decided_once (decisions_left l.d l.i) ≡ decided_once (decisions_of l.d))
