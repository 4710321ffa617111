-- `sets::size`: the count of ones is the count of the 64 digits.
use Rattle.sets.proofs.SetLaws.{ones-size}
use Rattle.sets.proofs.size.Goals as goal

pub returns : goal.returns
returns c = ones-size c.args.m c.ranges.m.fits
