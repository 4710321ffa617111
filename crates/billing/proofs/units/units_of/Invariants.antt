-- `units::units_of`: each line keeps its block.
use Rattle.billing.proofs.units.units_of.Given as goal

abbrev pub ghost-units_by : goal.ghost-units_by
ghost-units_by a = λ l. l.block
