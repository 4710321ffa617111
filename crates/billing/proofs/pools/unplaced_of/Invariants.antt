-- `pools::unplaced_of`: the test is that of the definition.
use mathlib.Core.Bool.{not}
use Rattle.billing.specs.paper.Pools.{pooled}
use Rattle.billing.proofs.pools.unplaced_of.Given as goal

abbrev pub ghost-sum_where : goal.ghost-sum_where
ghost-sum_where a = λ l. not (pooled l)
