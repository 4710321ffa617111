-- `discretion::neighbours`: what the table holds, with what the edges left lead to, is all that the edges lead to.
use mathlib.Core.Path.{◌≡◌}
use Prim.Native.Nat.{ℕ}
use Rattle.sets.specs.paper.Sets.{union}
use Rattle.worlds.specs.code.Over.{entry}
use Rattle.worlds.specs.code.Discretion.{near}
use Rattle.worlds.proofs.discretion.neighbours.Given as goal

abbrev pub invariant-loop-e : goal.invariant-loop-e
invariant-loop-e l = (p : ℕ) → union (entry l.lead p) (near l.pairs l.e-iterator.0 p) ≡ near l.pairs l.edges p
