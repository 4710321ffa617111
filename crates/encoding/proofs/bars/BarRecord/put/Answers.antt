-- The twelve bytes of a bar.
use Rattle.records.specs.code.Decoded.{bar_of}
use Rattle.page.proofs.PageLaws.{puts_then}
use Rattle.encoding.proofs.KindBytes.{bar-bytes}
use Rattle.encoding.proofs.bars.BarRecord.put.Goals as goal

pub returns : goal.returns
unfolding bar_of
returns c =
    rw (← bar-bytes (bar_of c.args.self), ← c.mask_bytes.ensures)
    (puts_then _ _ _ _ _ c.put_all-next.ensures (puts_then _ _ _ _ _ c.put_all-next-2.ensures c.put_all.ensures))
