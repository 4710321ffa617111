-- `world::evaluate_world`: the steps one after another give the view of each roster person.
use Rattle.sets.specs.paper.Sets.{union, meet}
use Rattle.worlds.proofs.PlaceLaws.{steps_seen}
use Rattle.worlds.proofs.world.evaluate_world.Goals as goal

pub returns : goal.returns
unfolding union meet
returns c =
    steps_seen _ _ _ _ _ _ _ _ _ _ _ c.minus-placed.ensures c.blank.ensures c.freeze.ensures c.cut.ensures c.attach.ensures c.bar.ensures c.status.ensures
