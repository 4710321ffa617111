-- The pass over the bars, left at the first that names no node.
use mathlib.Core.Path.{◌≡◌}
use Prim.Native.Nat.{◌≤◌, ◌-◌}
use mathlib.Core.List.{map}
use lib.ListN.{length, take}
use Rattle.records.specs.paper.Plan as paper
use Rattle.records.specs.code.Decoded.{bar_of}
use Rattle.records.specs.code.Named.{bar_faults}
use Rattle.records.proofs.FaultLaws.{NoneYet}
use Rattle.records.proofs.plan.checks.name_faults.bar_faults.Given as goal

abbrev pub invariant-loop-k : goal.invariant-loop-k
invariant-loop-k l =
    (l.k ≤ l.count) × (l.count ≤ 32) × (l.count ≡ length (map bar_of (take l.bars.count l.bars.items))) × ((P : paper.Plan) → l.nodes ≡ length P.nodes → NoneYet l.first (bar_faults P l.bars) P l.k)
