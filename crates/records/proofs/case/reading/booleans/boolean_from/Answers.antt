-- The boolean that its fields and the bytes of its list make.
use Rattle.records.specs.code.Decoded.{boolean_of}
use Rattle.records.proofs.case.reading.booleans.boolean_from.Goals as goal

pub returns : goal.returns
unfolding boolean_of
returns c = rw c.observations_from-observations.ensures
