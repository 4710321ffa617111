-- `expressions::evidence::mark_all` meets its contract: what is marked, with what is left of the list, gives the whole.
use Prim.Native.Nat.{◌≤◌}
use mathlib.Core.Path.{◌≡◌}
use lib.ListN.{drop}
use Rattle.expressions.specs.code.Evident.{evidence_mark}
use Rattle.records.specs.code.Decoded.{observations_of}
use Rattle.sets.specs.paper.Sets.{union, union_of}
use Rattle.expressions.proofs.evidence.mark_all.Given as goal

abbrev pub invariant-loop-i : goal.invariant-loop-i
invariant-loop-i l = (l.i ≤ l.n) × (union l.all (union_of evidence_mark (drop l.i (observations_of l.o))) ≡ union l.m (union_of evidence_mark (observations_of l.o)))
