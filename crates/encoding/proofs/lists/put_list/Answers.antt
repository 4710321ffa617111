-- `put_list`: nothing, or the count and then the numbers.
use mathlib.Core.Path.{ap, ◌∙◌}
use native.Mathlib.Omega.{arith}
use lib.ListN.{take}
use Rattle.records.specs.code.Decoded.{numbers_of}
use Rattle.page.specs.Page.{puts}
use Rattle.encoding.proofs.ListBytes.{list-none, list-some}
use Rattle.encoding.proofs.lists.put_list.Goals as goal

pub returns-then-n-eq0 : goal.returns-then-n-eq0
unfolding puts numbers_of
returns-then-n-eq0 c = rw (list-none c.args.list.items c.args.list.count c.min-n.result (omega (arith, c.well_formed)) (omega arith) c.if-n-eq0.true)

pub returns : goal.returns
unfolding numbers_of puts
returns c =
    let list = c.args.list in
    rw (list-some list.items list.count c.min-n.result (omega (arith, c.well_formed)) (omega arith) c.if-n-eq0.false)
    (c.put_all.ensures ∙ ap (λ q. puts q (take c.min-n.result list.items)) c.put-next.ensures)
