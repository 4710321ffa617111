-- `lukhveri_pool`: what a case pooled hands over.
use Rattle.exports.proofs.PoolLaws.{hands_pools}
use Rattle.exports.proofs.lukhveri_pool.Goals as goal

pub returns : goal.returns
returns c =
    let t = c.tell_pools.ensures in
    hands_pools _ _ _ _ _ _ _ _ c.pool-found.ensures t.0 t.1 c.mark_bytes.ensures
