-- `world::move_to`: only blocks that hold a mover, and the block itself, change; where the movers are in it already none does.
use mathlib.Core.Path.{sym, ◌∙◌}
use Rattle.sets.specs.paper.Sets.{union}
use Rattle.worlds.proofs.AttachLaws.{moved_apart, moved_already}
use Rattle.worlds.proofs.world.move_to.Goals as goal

pub returns-then-not-subset : goal.returns-then-not-subset
unfolding union
returns-then-not-subset c = record {
  at = λ live anchor B is inside p.
      c.regroup.ensures.at p ∙ moved_apart live anchor _ _ _ B is inside _ c.ranges.movers.fits c.gather-left.ensures p;
}

pub returns-else-not-subset : goal.returns-else-not-subset
returns-else-not-subset c = record {
  at = λ live anchor B is inside p. moved_already live anchor _ _ _ B is inside (sym c.subset.ensures ∙ c.if-not-subset.false) p;
}
