-- The pass over the cuts.
use mathlib.Core.Path.{◌≡◌}
use mathlib.Core.Bool.{true}
use Prim.Native.Nat.{◌-◌, ◌≤◌}
use lib.ListN.{length}
use Rattle.sets.specs.paper.Sets.{all_of}
use Rattle.records.specs.code.Decoded.{cuts_of}
use Rattle.records.proofs.Passing.{Going}
use Rattle.records.proofs.KindLaws.{cut_kind, once}
use Rattle.records.specs.paper.Plan as paper
use Rattle.records.proofs.plan.reading.cuts.read_cuts.Given as goal

abbrev pub invariant-loop-here : goal.invariant-loop-here
invariant-loop-here l =
    (l.here.«record» ≤ l.here.at) × (l.cuts.count ≤ 16) × (length l.cuts.items ≡ 16) × Going cut_kind l.s l.from l.here.number l.here.«record» l.here.at (cuts_of l.cuts)
    × (l.pending ≡ paper.unresolved (cuts_of l.cuts)) × (l.pending ≤ 16) × (all_of once (cuts_of l.cuts) ≡ true) × (l.here.headed ≡ l.from.headed)

abbrev pub decreases-loop-here : goal.decreases-loop-here
decreases-loop-here l = length l.s - l.here.at
