-- `pools::pool_of`: the test is that of the definition.
use mathlib.Core.Bool.{◌&&◌}
use lib.Dec.{eqb}
use Rattle.billing.specs.paper.Pools.{pooled}
use Rattle.billing.proofs.pools.pool_of.Given as goal

abbrev pub ghost-sum_where : goal.ghost-sum_where
ghost-sum_where a = λ l. pooled l && eqb l.block a.test.0
