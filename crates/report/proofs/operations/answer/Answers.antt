-- `operations::answer`: operating with all worlds wanted.
use mathlib.Core.Path.{refl}
use mathlib.Core.Bool.{true}
use Rattle.report.proofs.OperateLaws.{answers}
use Rattle.report.proofs.operations.answer.Goals as goal

pub returns : goal.returns
returns c = answers c.args.plan.now c.args.case.now c.args.lines.now _ c.args.events.now _ _ (record { all = true; number = 0 }) refl c.operate.ensures
