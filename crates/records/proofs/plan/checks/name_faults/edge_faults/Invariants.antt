-- The pass over the edges, left at the first that names what is not there.
use mathlib.Core.Path.{◌≡◌}
use mathlib.Core.List.{map}
use Prim.Native.Nat.{◌≤◌, ◌-◌}
use lib.ListN.{length, take}
use Rattle.records.specs.paper.Plan as paper
use Rattle.records.specs.code.Decoded.{edge_of}
use Rattle.records.specs.code.Named.{edge_faults}
use Rattle.records.proofs.FaultLaws.{NoneYet}
use Rattle.records.proofs.plan.checks.name_faults.edge_faults.Given as goal

abbrev pub invariant-loop-k : goal.invariant-loop-k
invariant-loop-k l =
    (l.k ≤ l.count) × (l.count ≤ 64) × (l.count ≡ length (map edge_of (take l.edges.count l.edges.items))) × ((P : paper.Plan) → l.nodes ≡ length P.nodes → NoneYet l.first (edge_faults P l.edges) P l.k)
