-- The five bytes of a status.
use Rattle.records.specs.code.Decoded.{status_of}
use Rattle.encoding.proofs.KindBytes.{status-bytes}
use Rattle.encoding.proofs.statuses.StatusRecord.put.Goals as goal

pub returns : goal.returns
unfolding status_of
returns c = rw (← status-bytes (status_of c.args.self)) c.put_all.ensures
