-- The pass over the constraints.
use mathlib.Core.Path.{◌≡◌}
use Prim.Native.Nat.{◌-◌, ◌≤◌}
use lib.ListN.{length}
use Rattle.records.specs.code.Decoded.{constraints_of}
use Rattle.records.proofs.Passing.{Going}
use Rattle.records.proofs.CaseKinds.{constraint_kind}
use Rattle.records.proofs.case.reading.constraints.read_constraints.Given as goal

abbrev pub invariant-loop-here : goal.invariant-loop-here
invariant-loop-here l =
    (l.here.«record» ≤ l.here.at) × (l.constraints.count ≤ 16) × (length l.constraints.items ≡ 16) × Going constraint_kind l.s l.from l.here.number l.here.«record» l.here.at (constraints_of l.constraints) × (l.here.headed ≡ l.from.headed)

abbrev pub decreases-loop-here : goal.decreases-loop-here
decreases-loop-here l = length l.s - l.here.at
