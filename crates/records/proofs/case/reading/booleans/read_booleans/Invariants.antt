-- The pass over the booleans.
use mathlib.Core.Path.{◌≡◌}
use Prim.Native.Nat.{◌-◌, ◌≤◌}
use lib.ListN.{length}
use Rattle.records.specs.code.Decoded.{booleans_of}
use Rattle.records.proofs.Passing.{Going}
use Rattle.records.proofs.CaseKinds.{boolean_kind}
use Rattle.records.proofs.case.reading.booleans.read_booleans.Given as goal

abbrev pub invariant-loop-here : goal.invariant-loop-here
invariant-loop-here l =
    (l.here.«record» ≤ l.here.at) × (l.booleans.count ≤ 64) × (length l.booleans.items ≡ 64) × Going boolean_kind l.s l.from l.here.number l.here.«record» l.here.at (booleans_of l.booleans) × (l.here.headed ≡ l.from.headed)

abbrev pub decreases-loop-here : goal.decreases-loop-here
decreases-loop-here l = length l.s - l.here.at
