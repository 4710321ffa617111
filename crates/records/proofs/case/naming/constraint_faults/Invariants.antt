-- The pass over the constraints, left at the first that names no node.
use mathlib.Core.Path.{◌≡◌}
use Prim.Native.Nat.{◌≤◌, ◌-◌}
use lib.ListN.{length, take}
use Rattle.records.specs.paper.Plan as paper
use Rattle.records.specs.paper.Case as case
use Rattle.records.specs.code.CaseNamed.{constraint_faults}
use Rattle.records.proofs.FaultLaws.{NoneYet}
use Rattle.records.proofs.case.naming.constraint_faults.Given as goal

abbrev pub invariant-loop-k : goal.invariant-loop-k
invariant-loop-k l =
    (l.k ≤ l.count) × (l.count ≤ 16) × (l.count ≤ l.constraints.count) × (l.count ≡ length (take l.constraints.count l.constraints.items))
    × ((P : paper.Plan) (C : case.Case) → l.nodes ≡ length P.nodes → NoneYet l.first (constraint_faults P l.constraints) C l.k)
