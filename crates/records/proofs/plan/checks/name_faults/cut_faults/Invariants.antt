-- The pass over the cuts, left at the first that names what is not there.
use mathlib.Core.Path.{◌≡◌}
use mathlib.Core.List.{map}
use Prim.Native.Nat.{◌≤◌, ◌-◌}
use lib.ListN.{length, take}
use Rattle.records.specs.paper.Plan as paper
use Rattle.records.specs.code.Decoded.{cut_of}
use Rattle.records.specs.code.Named.{MarksBooleans, cut_faults, CountsOf}
use Rattle.records.proofs.FaultLaws.{NoneYet}
use Rattle.records.proofs.plan.checks.name_faults.cut_faults.Given as goal

abbrev pub invariant-loop-k : goal.invariant-loop-k
invariant-loop-k l =
    (l.k ≤ l.count) × (l.count ≤ 16) × (l.count ≡ length (map cut_of (take l.cuts.count l.cuts.items))) × ((P : paper.Plan) → MarksBooleans P l.booleans → CountsOf P l.counts → NoneYet l.first (cut_faults P l.cuts) P l.k)
