-- The pass over the relations, left at the first that names what is not there.
use mathlib.Core.Path.{◌≡◌}
use mathlib.Core.List.{map}
use Prim.Native.Nat.{◌≤◌, ◌-◌}
use lib.ListN.{length, take}
use Rattle.records.specs.paper.Plan as paper
use Rattle.records.specs.code.Decoded.{relation_of}
use Rattle.records.specs.paper.Case as case
use Rattle.records.specs.code.CaseNamed.{MarksRelations, relation_faults}
use Rattle.records.proofs.FaultLaws.{NoneYet}
use Rattle.records.proofs.case.naming.relation_faults.Given as goal

abbrev pub invariant-loop-k : goal.invariant-loop-k
invariant-loop-k l =
    (l.k ≤ l.count) × (l.count ≤ 256) × (l.count ≡ length (map relation_of (take l.relations.count l.relations.items))) × ((P : paper.Plan) (C : case.Case) → MarksRelations P C l.set → NoneYet l.first (relation_faults P C l.relations) C l.k)
