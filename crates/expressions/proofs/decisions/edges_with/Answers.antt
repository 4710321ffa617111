use mathlib.Core.Path.{◌∙◌}
use native.Mathlib.Omega.{arith}
use Rattle.sets.specs.paper.Sets.{below, numbers, any_of}
use Rattle.sets.proofs.SetLaws.{has-none}
use Rattle.expressions.proofs.DecisionLaws.{decision_at, any_more, in_use}
use Rattle.expressions.proofs.decisions.edges_with.Goals as goal

pub loop-i-init : goal.loop-i-init
unfolding below numbers any_of
loop-i-init c = λ e h. has-none e

pub loop-i-preserved : goal.loop-i-preserved
loop-i-preserved c = λ e h. rw (any_more _ (decision_at c.args.decisions) c.loop-i.i, ← c.loop-i.invariant e h) (c.with_number-m.ensures e h)

pub returns : goal.returns
returns c = λ e h. c.loop-i.invariant e h ∙ in_use c.args.decisions e c.args.verdict c.loop-i.i (omega (arith, c.well_formed)) (omega arith) (omega arith)
