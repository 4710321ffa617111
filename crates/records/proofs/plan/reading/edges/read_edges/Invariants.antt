-- The pass over the edges.
use mathlib.Core.Path.{◌≡◌}
use Prim.Native.Nat.{◌-◌, ◌≤◌}
use lib.ListN.{length}
use Rattle.records.specs.code.Decoded.{edges_of}
use Rattle.records.proofs.Passing.{Going}
use Rattle.records.proofs.KindLaws.{edge_kind}
use Rattle.records.proofs.plan.reading.edges.read_edges.Given as goal

abbrev pub invariant-loop-here : goal.invariant-loop-here
invariant-loop-here l =
    (l.here.«record» ≤ l.here.at) × (l.edges.count ≤ 64) × (length l.edges.items ≡ 64) × Going edge_kind l.s l.from l.here.number l.here.«record» l.here.at (edges_of l.edges) × (l.here.headed ≡ l.from.headed)

abbrev pub decreases-loop-here : goal.decreases-loop-here
decreases-loop-here l = length l.s - l.here.at
