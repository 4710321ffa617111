-- `relate::set_of`: what is there, with the numbers left, is the whole.
use mathlib.Core.Path.{◌≡◌}
use lib.ListN.{drop}
use Rattle.sets.specs.paper.Sets.{one, union, union_of}
use Rattle.worlds.proofs.relate.set_of.Given as goal

abbrev pub invariant-loop-p : goal.invariant-loop-p
invariant-loop-p l = union l.all (union_of one (drop l.p-index l.p-items)) ≡ union_of one l.p-items
