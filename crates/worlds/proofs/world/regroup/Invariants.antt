-- `world::regroup`: with the change made for the persons left, each block is the one asked for.
use Rattle.worlds.proofs.AttachLaws.{regrouped}
use Rattle.worlds.proofs.OverLaws.{Changing}
use Rattle.worlds.proofs.world.regroup.Given as goal

abbrev pub invariant-loop-p : goal.invariant-loop-p
invariant-loop-p l = Changing (regrouped l.target l.movers) 0 l.persons l.p-iterator.0 l.initial.blocks l.blocks
