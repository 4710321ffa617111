-- `import::import`: the plan of the table placed, or 16 over a buffer of zeros.
use mathlib.Core.Path.{ap, ◌∙◌}
use lib.ListN.{length}
use Rattle.page.proofs.ZeroLaws.{zeros-long, zeros_all}
use Rattle.drafting.specs.paper.Importing.{imported}
use Rattle.drafting.proofs.ImportLaws.{read-sound, drafted-placed, undrafted}
use Rattle.drafting.proofs.import.import.Goals as goal

pub returns-then-read-ne0 : goal.returns-then-read-ne0
returns-then-read-ne0 c = undrafted c.args.table.now c.plan_in-read.result c.plan_in-read.ensures c.if-read-ne0.true _ _ c.clear.ensures

pub place-requires : goal.place-requires
place-requires c =
    (read-sound c.args.table.now c.plan_in-read.result c.plan_in-read.ensures c.if-read-ne0.false, zeros_all _ (length c.args.plan.now) c.clear.ensures)

pub returns : goal.returns
returns c =
    c.place.ensures ∙ drafted-placed c.args.table.now c.plan_in-read.result c.plan_in-read.ensures c.if-read-ne0.false _
    ∙ ap (imported c.args.table.now) (zeros-long _ _ c.clear.ensures)
