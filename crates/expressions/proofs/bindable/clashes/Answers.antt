use Rattle.expressions.proofs.FaultLaws.{clash_beside, clash_none}
use Rattle.expressions.proofs.bindable.clashes.Goals as goal

-- src/bindable.rt:70:1
pub returns-then-b : goal.returns-then-b
returns-then-b c = clash_beside c.args.b c.if-b.true

-- src/bindable.rt:70:1
pub returns-else-b : goal.returns-else-b
returns-else-b c = clash_none c.args.b c.if-b.false
