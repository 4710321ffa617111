use mathlib.Core.Path.{refl, ◌∙◌}
use native.Mathlib.Omega.{arith}
use Rattle.records.proofs.DecisionLaws.{any_here, any_later, any_none}
use Rattle.records.proofs.plan.checks.decisions.decided_from.Goals as goal

pub loop-j-init : goal.loop-j-init
loop-j-init c = (omega (arith, c.requires, c.from-n.ensures), refl)

pub returns-then-d-j : goal.returns-then-d-j
returns-then-d-j c = any_here c.args.d c.args.edge c.loop-j.j (omega (arith, c.loop-j-test.true, c.from-n.ensures)) c.if-d-j.true ∙ c.loop-j.invariant.1

pub loop-j-preserved : goal.loop-j-preserved
loop-j-preserved c = (omega arith, any_later c.args.d c.args.edge c.loop-j.j (omega (arith, c.loop-j-test.true, c.from-n.ensures)) c.if-d-j.false ∙ c.loop-j.invariant.1)

pub returns : goal.returns
returns c = any_none c.args.d c.args.edge c.loop-j.j (omega (arith, c.loop-j-test.false, c.from-n.ensures)) ∙ c.loop-j.invariant.1
