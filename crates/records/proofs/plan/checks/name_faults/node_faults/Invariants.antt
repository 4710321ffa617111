-- The pass over the nodes, left at the first that names no fact or no lower node.
use mathlib.Core.Path.{◌≡◌}
use mathlib.Core.List.{map}
use Prim.Native.Nat.{◌≤◌, ◌-◌}
use lib.ListN.{length, take}
use Rattle.records.specs.paper.Plan as paper
use Rattle.records.specs.code.Decoded.{node_of}
use Rattle.records.specs.code.Named.{node_faults}
use Rattle.records.proofs.FaultLaws.{NoneYet}
use Rattle.records.proofs.plan.checks.name_faults.node_faults.Given as goal

abbrev pub invariant-loop-k : goal.invariant-loop-k
invariant-loop-k l =
    (l.k ≤ l.count) × (l.count ≤ 256) × (l.count ≡ length (map node_of (take l.nodes.count l.nodes.items))) × ((P : paper.Plan) → l.facts ≡ length P.facts → NoneYet l.first (node_faults P l.nodes) P l.k)
