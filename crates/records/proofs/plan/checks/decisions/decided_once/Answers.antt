use mathlib.Core.Path.{sym, ◌∙◌, ap}
use native.Mathlib.Omega.{arith}
use Rattle.records.specs.paper.Plan.{decided_once}
use Rattle.records.proofs.DecisionLaws.{from_all, once-not, once_more, once_done}
use Rattle.records.proofs.plan.checks.decisions.decided_once.Goals as goal

pub loop-i-init : goal.loop-i-init
loop-i-init c = (omega arith, ap decided_once (from_all c.args.d))

pub decided_from-requires : goal.decided_from-requires
decided_from-requires c = (c.requires, omega (arith, c.loop-i-test.true, c.from-n.ensures))

pub returns-then-decided_from : goal.returns-then-decided_from
returns-then-decided_from c = once-not c.args.d c.loop-i.i (omega (arith, c.loop-i-test.true, c.from-n.ensures)) (sym c.if-decided_from.true ∙ c.decided_from.ensures) ∙ c.loop-i.invariant.1

pub loop-i-preserved : goal.loop-i-preserved
loop-i-preserved c = (omega arith, once_more c.args.d c.loop-i.i (omega (arith, c.loop-i-test.true, c.from-n.ensures)) (sym c.if-decided_from.false ∙ c.decided_from.ensures) ∙ c.loop-i.invariant.1)

pub returns : goal.returns
returns c = once_done c.args.d c.loop-i.i (omega (arith, c.loop-i-test.false, c.from-n.ensures)) ∙ c.loop-i.invariant.1
