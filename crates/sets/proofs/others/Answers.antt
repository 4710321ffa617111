-- `sets::others`: m & (m - 1) is the set without its lowest number.
use Rattle.sets.proofs.TurnLaws.{members-next, and-less}
use Rattle.sets.proofs.others.Goals as goal

pub returns : goal.returns
returns c = (members-next _ c.ranges.set.fits c.requires, and-less _ c.requires)
