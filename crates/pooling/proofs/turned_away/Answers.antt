-- `turned_away`: both buffers cleared, nothing pooled.
use Rattle.pooling.proofs.GivenLaws.{given-same}
use Rattle.pooling.proofs.turned_away.Goals as goal

pub returns : goal.returns
returns c =
    let u = c.unpooled.ensures in
    given-same _ _ _ _ _ _ _ _ u.0 c.clear.ensures c.clear-2.ensures u.1
