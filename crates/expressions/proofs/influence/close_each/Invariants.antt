-- `influence::close_each`: after i sets the list has their closings behind what was there.
use Prim.Native.Nat.{◌+◌}
use mathlib.Core.Path.{◌≡◌}
use mathlib.Core.List.{◌++◌}
use lib.ListN.{take}
use Rattle.sets.specs.paper.Sets.{below}
use Rattle.expressions.specs.code.Influences.{closed_if}
use Rattle.expressions.proofs.influence.close_each.Given as goal

abbrev pub invariant-loop-i : goal.invariant-loop-i
invariant-loop-i l = take (l.at + l.i) l.known ≡ take l.at l.initial.known ++ below l.i (closed_if l.groups l.wanted l.touches)
