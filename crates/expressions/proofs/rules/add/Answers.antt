use native.Mathlib.Omega.{arith}
use Rattle.expressions.proofs.RuleLaws.{ruling_none, ruling_next, ruling_end}
use Rattle.expressions.proofs.rules.add.Goals as goal

pub loop-i-init : goal.loop-i-init
loop-i-init g c = ruling_none

pub loop-i-preserved : goal.loop-i-preserved
loop-i-preserved g c =
    ruling_next c.loop-i.invariant c.index-records-i.result c.rule-used.result c.loop-i-test.true c.index-records-i.is (omega arith) (omega arith) c.rule-used.ensures

pub returns-clause-added : goal.returns-clause-added
returns-clause-added g c = ruling_end c.loop-i.invariant (omega arith)
