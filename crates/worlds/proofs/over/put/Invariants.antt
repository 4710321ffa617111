-- `over::put`: with the value at the numbers left, the table is the one asked for.
use Rattle.worlds.proofs.OverLaws.{Changing}
use Rattle.worlds.proofs.over.put.Given as goal

abbrev pub invariant-loop-i : goal.invariant-loop-i
invariant-loop-i g l = (past : _) → Changing (λ i x. l.value) past l.set l.i-iterator.0 l.initial.table l.table
