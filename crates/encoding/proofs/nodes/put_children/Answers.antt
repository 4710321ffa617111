-- `put_children`: three bytes, then the numbers.
use native.Mathlib.Omega.{arith}
use Rattle.records.specs.code.Decoded.{numbers_of}
use Rattle.records.proofs.UsedLaws.{used_length, used_take}
use Rattle.page.proofs.PageLaws.{puts_then}
use Rattle.encoding.proofs.nodes.put_children.Goals as goal

pub returns : goal.returns
unfolding numbers_of
returns c =
    let list = c.args.list in
    rw (used_length list.items list.count 16 c.min-n.result (omega (arith, c.well_formed)) (omega arith), ← used_take list.items list.count 16 c.min-n.result (omega (arith, c.well_formed)) (omega arith))
    (puts_then _ _ _ _ _ c.put_all-next.ensures c.put_all.ensures)
