-- The pass over the attachments.
use mathlib.Core.Path.{◌≡◌}
use Prim.Native.Nat.{◌-◌, ◌≤◌}
use lib.ListN.{length}
use Rattle.records.specs.code.Decoded.{attachments_of}
use Rattle.records.proofs.Passing.{Going}
use Rattle.records.proofs.KindLaws.{attachment_kind}
use Rattle.records.proofs.plan.reading.attachments.read_attachments.Given as goal

abbrev pub invariant-loop-here : goal.invariant-loop-here
invariant-loop-here l =
    (l.here.«record» ≤ l.here.at) × (l.attachments.count ≤ 32) × (length l.attachments.items ≡ 32) × Going attachment_kind l.s l.from l.here.number l.here.«record» l.here.at (attachments_of l.attachments) × (l.here.headed ≡ l.from.headed)

abbrev pub decreases-loop-here : goal.decreases-loop-here
decreases-loop-here l = length l.s - l.here.at
