-- `cuts::apply_cut_precedence`: the active cuts without those that an active cut drops.
use Rattle.worlds.proofs.FindLaws.{minus_passing}
use Rattle.worlds.proofs.cuts.apply_cut_precedence.Goals as goal

pub returns : goal.returns
returns c = minus_passing _ _ _ _ c.minus.ensures c.meeting.ensures
