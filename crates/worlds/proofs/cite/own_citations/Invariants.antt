-- `cite::own_citations`: with the cuts left, each person has the citations of all the cuts that hold the person.
use mathlib.Core.Path.{◌≡◌}
use Prim.Native.Nat.{ℕ}
use Rattle.sets.specs.paper.Sets.{union}
use Rattle.worlds.specs.code.Over.{entry}
use Rattle.worlds.specs.code.Citing.{own_of}
use Rattle.worlds.proofs.cite.own_citations.Given as goal

abbrev pub invariant-loop-c : goal.invariant-loop-c
invariant-loop-c l = (p : ℕ) → union (entry l.own p) (own_of l.t l.c-iterator.0 p) ≡ union (entry l.initial.own p) (own_of l.t l.applied p)
