-- `sets::close`: each pass keeps the closing, and lessens the sets that are not inside.
use mathlib.Core.Path.{◌≡◌}
use Rattle.sets.specs.paper.Sets.{close_of}
use Rattle.sets.proofs.Closing.{left}
use Rattle.sets.proofs.close.Given as goal

abbrev pub invariant-loop-m : goal.invariant-loop-m
invariant-loop-m l = close_of l.sets l.m ≡ close_of l.sets l.seed

abbrev pub decreases-loop-m : goal.decreases-loop-m
decreases-loop-m l = left l.sets l.m
