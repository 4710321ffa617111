-- The pass over the headings.
use mathlib.Core.Path.{◌≡◌}
use Prim.Native.Nat.{◌-◌, ◌≤◌}
use lib.ListN.{length}
use lib.Dec.{eqb}
use Rattle.records.specs.code.Decoded.{headings_of}
use Rattle.records.specs.code.Passes.{at_start}
use Rattle.records.proofs.Passing.{Going}
use Rattle.records.proofs.KindLaws.{heading_kind}
use Rattle.records.proofs.plan.reading.heading.read_heading.Given as goal

abbrev pub invariant-loop-here : goal.invariant-loop-here
invariant-loop-here l =
    (l.here.«record» ≤ l.here.at) × (l.headings ≤ 1) × Going heading_kind l.s at_start l.here.number l.here.«record» l.here.at (headings_of l.headings l.relation l.chained l.chain) × (l.here.number ≡ 0) × (l.here.headed ≡ eqb l.headings 1)

abbrev pub decreases-loop-here : goal.decreases-loop-here
decreases-loop-here l = length l.s - l.here.at
