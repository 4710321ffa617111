-- The pass over the statuses, left at the first that names no node.
use mathlib.Core.Path.{◌≡◌}
use Prim.Native.Nat.{◌≤◌, ◌-◌}
use mathlib.Core.List.{map}
use lib.ListN.{length, take}
use Rattle.records.specs.paper.Plan as paper
use Rattle.records.specs.code.Decoded.{status_of}
use Rattle.records.specs.code.Named.{status_faults}
use Rattle.records.proofs.FaultLaws.{NoneYet}
use Rattle.records.proofs.plan.checks.name_faults.status_faults.Given as goal

abbrev pub invariant-loop-k : goal.invariant-loop-k
invariant-loop-k l =
    (l.k ≤ l.count) × (l.count ≤ 32) × (l.count ≡ length (map status_of (take l.statuses.count l.statuses.items))) × ((P : paper.Plan) → l.nodes ≡ length P.nodes → NoneYet l.first (status_faults P l.statuses) P l.k)
