-- The pass over the nodes.
use mathlib.Core.Path.{◌≡◌}
use Prim.Native.Nat.{◌-◌, ◌≤◌}
use lib.ListN.{length}
use Rattle.records.specs.code.Decoded.{nodes_of}
use Rattle.records.proofs.Passing.{Going}
use Rattle.records.proofs.KindLaws.{node_kind}
use Rattle.records.proofs.plan.reading.nodes.read_nodes.Given as goal

abbrev pub invariant-loop-here : goal.invariant-loop-here
invariant-loop-here l =
    (l.here.«record» ≤ l.here.at) × (l.nodes.count ≤ 256) × (length l.nodes.items ≡ 256) × Going node_kind l.s l.from l.here.number l.here.«record» l.here.at (nodes_of l.nodes) × (l.here.headed ≡ l.from.headed)

abbrev pub decreases-loop-here : goal.decreases-loop-here
decreases-loop-here l = length l.s - l.here.at
