-- `sets::low`: a set that is not empty has a number below 64.
use mathlib.Core.Path.{refl}
use native.Mathlib.Omega.{arith}
use Rattle.sets.specs.paper.Sets.{lowest}
use Rattle.sets.proofs.SetLaws.{trailing_lt}
use Rattle.sets.proofs.low.Goals as goal

pub overflow_cast-result : goal.overflow_cast-result
overflow_cast-result c = omega (arith, trailing_lt 64 _ c.ranges.set.fits c.requires)

pub returns : goal.returns
unfolding lowest
returns c = (refl, trailing_lt 64 _ c.ranges.set.fits c.requires)
