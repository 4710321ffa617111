-- `sets::bit`: the shift of 1 is the power of two.
use Rattle.sets.specs.paper.Sets.{one}
use Rattle.sets.proofs.SetLaws.{shl_one}
use Rattle.sets.proofs.bit.Goals as goal

pub returns : goal.returns
unfolding one
returns c = shl_one c.args.p c.requires
