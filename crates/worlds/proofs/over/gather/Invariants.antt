-- `over::gather`: what is gathered, with what the numbers left bring, is the whole.
use mathlib.Core.Path.{◌≡◌}
use Prim.Native.Nat.{◌<◌, ◌^◌}
use Rattle.sets.specs.paper.Sets.{union, members, union_of}
use Rattle.worlds.specs.code.Over.{entry}
use Rattle.worlds.proofs.over.gather.Given as goal

abbrev pub invariant-loop-i : goal.invariant-loop-i
invariant-loop-i l =
    (l.i-iterator.0 < 2 ^ 64) × (union l.all (union_of (entry l.table) (members l.i-iterator.0)) ≡ union_of (entry l.table) (members l.set))
