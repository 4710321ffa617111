-- `over::give`: with the set added at the numbers left, the table is the one asked for.
use Rattle.sets.specs.paper.Sets.{union}
use Rattle.worlds.proofs.OverLaws.{Changing}
use Rattle.worlds.proofs.over.give.Given as goal

abbrev pub invariant-loop-i : goal.invariant-loop-i
invariant-loop-i l = Changing (λ i x. union x l.more) 0 l.set l.i-iterator.0 l.initial.table l.table
