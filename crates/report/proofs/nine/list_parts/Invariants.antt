-- `nine::list_parts`: the components met, with those at the persons that are left, are all.
use Rattle.sets.specs.paper.Sets.{members}
use Rattle.report.proofs.NineLaws.{Turns}
use Rattle.report.proofs.nine.list_parts.Given as goal

abbrev pub invariant-loop-p : goal.invariant-loop-p
invariant-loop-p l = Turns l.parts (members l.heads) (members l.p-iterator.0) l.initial.known l.initial.events l.known l.events
