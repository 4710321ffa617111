-- Whether an edge is decided from a place on.
use mathlib.Core.Path.{◌≡◌}
use Prim.Native.Nat.{◌-◌, ◌≤◌}
use lib.Dec.{eqb}
use Rattle.sets.specs.paper.Sets.{any_of}
use Rattle.records.specs.code.PlanPasses.{decisions_left}
use Rattle.records.proofs.plan.checks.decisions.decided_from.Given as goal

abbrev pub invariant-loop-j : goal.invariant-loop-j
invariant-loop-j l = (l.j ≤ l.n) × (any_of (λ e. eqb e.edge l.edge) (decisions_left l.d l.j) ≡ any_of (λ e. eqb e.edge l.edge) (decisions_left l.d l.i))
