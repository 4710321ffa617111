-- `sets::pass`: what is left of the pass, from the set i on, gives the whole pass.
use Prim.Native.Nat.{◌≤◌, ◌-◌}
use mathlib.Core.Path.{◌≡◌}
use lib.ListN.{length, drop}
use Rattle.sets.specs.paper.Sets.{pass}
use Rattle.sets.proofs.pass.Given as goal

abbrev pub invariant-loop-s : goal.invariant-loop-s
invariant-loop-s l = (l.s-index ≤ length l.sets) × (pass (drop l.s-index l.sets) l.m ≡ pass l.sets l.seed)
