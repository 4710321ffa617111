-- The pass over the bars.
use mathlib.Core.Path.{◌≡◌}
use Prim.Native.Nat.{◌-◌, ◌≤◌}
use lib.ListN.{length}
use Rattle.records.specs.code.Decoded.{bars_of}
use Rattle.records.proofs.Passing.{Going}
use Rattle.records.proofs.KindLaws.{bar_kind}
use Rattle.records.proofs.plan.reading.bars.read_bars.Given as goal

abbrev pub invariant-loop-here : goal.invariant-loop-here
invariant-loop-here l =
    (l.here.«record» ≤ l.here.at) × (l.bars.count ≤ 32) × (length l.bars.items ≡ 32) × Going bar_kind l.s l.from l.here.number l.here.«record» l.here.at (bars_of l.bars) × (l.here.headed ≡ l.from.headed)

abbrev pub decreases-loop-here : goal.decreases-loop-here
decreases-loop-here l = length l.s - l.here.at
