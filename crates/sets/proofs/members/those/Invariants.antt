-- `members::those`: what is found is found by the test at the numbers that are passed.
use Rattle.sets.proofs.ThoseLaws.{Found}
use Rattle.sets.proofs.members.those.Given as goal

abbrev pub invariant-loop-p : goal.invariant-loop-p
invariant-loop-p g l = Found (goal.F-post g l.test) l.set l.p-iterator.0 l.found
