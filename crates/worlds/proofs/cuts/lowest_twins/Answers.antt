-- `cuts::lowest_twins`: the cuts without those that have one of them with the same members below them.
use Rattle.worlds.proofs.FindLaws.{minus_passing}
use Rattle.worlds.proofs.cuts.lowest_twins.Goals as goal

pub returns : goal.returns
returns c = minus_passing _ _ _ _ c.minus.ensures c.meeting.ensures
