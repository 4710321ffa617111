-- `lines::unresolved_for_person`: the numbers passed whose sets hold the person.
use mathlib.Core.Path.{◌≡◌}
use lib.ListN.{get_or}
use Rattle.sets.specs.paper.Sets.{has, one, only, union_below}
use Rattle.report.proofs.lines.unresolved_for_person.Given as goal

abbrev pub invariant-loop-i : goal.invariant-loop-i
invariant-loop-i l = l.found ≡ union_below l.i (λ j. only (has (get_or l.sets j 0) l.p) (one j))
