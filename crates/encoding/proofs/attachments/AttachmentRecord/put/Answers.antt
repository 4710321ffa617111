-- Fourteen bytes of an attachment, then its election.
use Prim.Native.Nat.{◌+◌}
use Rattle.records.specs.code.Decoded.{attachment_of}
use Rattle.page.proofs.PageLaws.{puts_then}
use Rattle.encoding.proofs.ElectionBytes.{election-stands}
use Rattle.encoding.proofs.KindBytes.{attachment-bytes}
use Rattle.encoding.proofs.attachments.AttachmentRecord.put.Goals as goal

pub returns : goal.returns
unfolding attachment_of
returns c =
    rw (← attachment-bytes (attachment_of c.args.self) (31 + c.weigh-bits.result) (rw (election-stands c.args.self.election, c.weigh-bits.ensures.0)), ← c.mask_bytes.ensures)
    (puts_then _ _ _ _ _ c.put_all-next.ensures (puts_then _ _ _ _ _ c.put_all-next-2.ensures (puts_then _ _ _ _ _ c.put_all-next-3.ensures c.put_election.ensures)))
