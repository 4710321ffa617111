-- `sets::minus`: `a & !b` leaves out what is in b.
use Rattle.sets.proofs.SetLaws.{and-not}
use Rattle.sets.proofs.minus.Goals as goal

pub returns : goal.returns
returns c = and-not 64 c.args.a c.args.b c.ranges.a.fits c.ranges.b.fits
