-- `operations::show`: operating with one world wanted.
use mathlib.Core.Path.{refl}
use mathlib.Core.Bool.{false}
use Rattle.report.proofs.OperateLaws.{shows}
use Rattle.report.proofs.operations.show.Goals as goal

pub returns : goal.returns
returns c = shows c.args.plan.now c.args.case.now c.args.lines.now _ c.args.events.now _ _ (record { all = false; number = c.args.world }) refl c.operate.ensures
