-- The pass over the statuses.
use mathlib.Core.Path.{◌≡◌}
use Prim.Native.Nat.{◌-◌, ◌≤◌}
use lib.ListN.{length}
use Rattle.records.specs.code.Decoded.{statuses_of}
use Rattle.records.proofs.Passing.{Going}
use Rattle.records.proofs.KindLaws.{status_kind}
use Rattle.records.proofs.plan.reading.statuses.read_statuses.Given as goal

abbrev pub invariant-loop-here : goal.invariant-loop-here
invariant-loop-here l =
    (l.here.«record» ≤ l.here.at) × (l.statuses.count ≤ 32) × (length l.statuses.items ≡ 32) × Going status_kind l.s l.from l.here.number l.here.«record» l.here.at (statuses_of l.statuses) × (l.here.headed ≡ l.from.headed)

abbrev pub decreases-loop-here : goal.decreases-loop-here
decreases-loop-here l = length l.s - l.here.at
