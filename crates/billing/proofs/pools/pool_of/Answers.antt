use Rattle.billing.specs.paper.Pools.{pool_of}
use Rattle.billing.proofs.pools.pool_of.Goals as goal

pub returns : goal.returns
unfolding pool_of
returns c = c.sum_where.ensures
