use Rattle.billing.specs.paper.Pools.{unplaced}
use Rattle.billing.proofs.pools.unplaced_of.Goals as goal

pub returns : goal.returns
unfolding unplaced
returns c = c.sum_where.ensures
