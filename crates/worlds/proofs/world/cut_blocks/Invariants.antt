-- `world::cut_blocks`: the placed members of the cuts met so far are blocks.
use Rattle.worlds.proofs.CutBlocks.{CutSoFar}
use Rattle.worlds.proofs.world.cut_blocks.Given as goal

abbrev pub invariant-loop-c : goal.invariant-loop-c
invariant-loop-c l = CutSoFar l.members l.applied l.placed l.c-iterator.0 l.initial.blocks l.blocks l.rest
