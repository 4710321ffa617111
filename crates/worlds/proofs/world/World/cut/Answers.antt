-- `World::cut`: marks of overlap and roles by what `put` does, blocks by the laws of step 6.
use Rattle.worlds.proofs.PlaceLaws.{first-placed}
use Rattle.worlds.proofs.world.World.cut.Goals as goal

pub returns : goal.returns
returns c = record {
  kinds = c.put.ensures;
  roles = c.put-2.ensures;
  blocks = λ P I k w S none p.
      first-placed P I k w _ _ _ _ c.ranges.frozen.fits c.ranges.applied.fits S _ _ _ _ c.alone.ensures.at c.cut_blocks-rest.ensures c.join_pairs.ensures p;
}
