-- The pass over the booleans, left at the first that names no boolean fact.
use mathlib.Core.Path.{◌≡◌}
use mathlib.Core.List.{map}
use Prim.Native.Nat.{◌≤◌, ◌-◌}
use lib.ListN.{length, take}
use Rattle.records.specs.paper.Plan as paper
use Rattle.records.specs.code.Decoded.{boolean_of}
use Rattle.records.specs.paper.Case as case
use Rattle.records.specs.code.Named.{MarksBooleans}
use Rattle.records.specs.code.CaseNamed.{boolean_faults}
use Rattle.records.proofs.FaultLaws.{NoneYet}
use Rattle.records.proofs.case.naming.boolean_faults.Given as goal

abbrev pub invariant-loop-k : goal.invariant-loop-k
invariant-loop-k l =
    (l.k ≤ l.count) × (l.count ≤ 64) × (l.count ≡ length (map boolean_of (take l.booleans.count l.booleans.items))) × ((P : paper.Plan) (C : case.Case) → MarksBooleans P l.set → NoneYet l.first (boolean_faults P l.booleans) C l.k)
