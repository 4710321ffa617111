-- The pass over the attachments, left at the first that names what is not there.
use mathlib.Core.Path.{◌≡◌}
use mathlib.Core.List.{map}
use Prim.Native.Nat.{◌≤◌, ◌-◌}
use lib.ListN.{length, take}
use Rattle.records.specs.paper.Plan as paper
use Rattle.records.specs.code.Decoded.{attachment_of}
use Rattle.records.specs.code.Named.{MarksBooleans, attachment_faults}
use Rattle.records.proofs.FaultLaws.{NoneYet}
use Rattle.records.proofs.plan.checks.name_faults.attachment_faults.Given as goal

abbrev pub invariant-loop-k : goal.invariant-loop-k
invariant-loop-k l =
    (l.k ≤ l.count) × (l.count ≤ 32) × (l.count ≡ length (map attachment_of (take l.attachments.count l.attachments.items))) × ((P : paper.Plan) → MarksBooleans P l.booleans → l.nodes ≡ length P.nodes → NoneYet l.first (attachment_faults P l.attachments) P l.k)
