use mathlib.Core.Path.{refl}
use Rattle.sets.specs.paper.Sets.{meet}
use Rattle.worlds.proofs.CutBlocks.{cut_turn, cut_end}
use Rattle.worlds.proofs.world.cut_blocks.Goals as goal

pub loop-c-preserved : goal.loop-c-preserved
unfolding meet
loop-c-preserved c =
    let s = c.in-Some.ensures.steps in
    cut_turn _ _ _ _ _ _ _ c.loop-c.invariant _ _ _ _ _ s.first.0 s.rest.0 s.rest.1 refl c.put.ensures c.minus-rest.ensures

pub returns : goal.returns
returns c = cut_end _ _ _ _ _ _ _ c.loop-c.invariant c.in-None.ensures.steps.0
