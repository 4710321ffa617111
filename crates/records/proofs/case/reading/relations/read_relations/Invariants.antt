-- The pass over the relations.
use mathlib.Core.Path.{◌≡◌}
use Prim.Native.Nat.{◌-◌, ◌≤◌}
use lib.ListN.{length}
use Rattle.records.specs.code.Decoded.{relations_of}
use Rattle.records.proofs.Passing.{Going}
use Rattle.records.proofs.CaseKinds.{relation_kind}
use Rattle.records.proofs.case.reading.relations.read_relations.Given as goal

abbrev pub invariant-loop-here : goal.invariant-loop-here
invariant-loop-here l =
    (l.here.«record» ≤ l.here.at) × (l.relations.count ≤ 256) × (length l.relations.items ≡ 256) × Going relation_kind l.s l.from l.here.number l.here.«record» l.here.at (relations_of l.relations) × (l.here.headed ≡ l.from.headed)

abbrev pub decreases-loop-here : goal.decreases-loop-here
decreases-loop-here l = length l.s - l.here.at
