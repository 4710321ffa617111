-- `households::household_count`: the blocks of lines that make households.
use Rattle.sets.specs.paper.Sets.{only}
use Rattle.billing.specs.paper.Households.{makes_household}
use Rattle.billing.proofs.households.household_count.Given as goal

abbrev pub ghost-units_by : goal.ghost-units_by
ghost-units_by a = λ l. only (makes_household l.kind l.role) l.block
