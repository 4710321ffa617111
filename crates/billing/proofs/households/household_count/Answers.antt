use mathlib.Core.Path.{◌∙◌}
use Rattle.billing.proofs.UnitLaws.{units-count}
use Rattle.billing.proofs.HouseholdLaws.{households_made}
use Rattle.billing.proofs.households.household_count.Goals as goal

pub returns : goal.returns
returns c = units-count _ _ c.units_by.ensures ∙ households_made _
