-- The pass over the families.
use mathlib.Core.Path.{◌≡◌}
use Prim.Native.Nat.{◌-◌, ◌≤◌}
use lib.ListN.{length}
use Rattle.records.specs.code.Decoded.{families_of}
use Rattle.records.proofs.Passing.{Going}
use Rattle.records.proofs.CaseKinds.{family_kind}
use Rattle.records.proofs.case.reading.families.read_families.Given as goal

abbrev pub invariant-loop-here : goal.invariant-loop-here
invariant-loop-here l =
    (l.here.«record» ≤ l.here.at) × (l.families.count ≤ 16) × (length l.families.items ≡ 16) × Going family_kind l.s l.from l.here.number l.here.«record» l.here.at (families_of l.families) × (l.here.headed ≡ l.from.headed)

abbrev pub decreases-loop-here : goal.decreases-loop-here
decreases-loop-here l = length l.s - l.here.at
