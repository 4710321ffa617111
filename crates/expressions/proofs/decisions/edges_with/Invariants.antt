-- `decisions::edges_with`: what is found are the edges with the verdict among the decisions passed.
use mathlib.Core.Path.{◌≡◌}
use Prim.Native.Nat.{ℕ, ◌<◌}
use Rattle.sets.specs.paper.Sets.{has, below}
use Rattle.expressions.specs.paper.Influence.{has_verdict}
use Rattle.expressions.proofs.DecisionLaws.{decision_at}
use Rattle.expressions.proofs.decisions.edges_with.Given as goal

abbrev pub invariant-loop-i : goal.invariant-loop-i
invariant-loop-i l = (e : ℕ) → e < 64 → has l.m e ≡ has_verdict e l.verdict (below l.i (decision_at l.decisions))
