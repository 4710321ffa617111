-- `field::plain_end`: with the bytes that are left, the scan ends where it should.
use mathlib.Core.Path.{◌≡◌}
use Prim.Native.Nat.{◌+◌, ◌-◌, ◌≤◌}
use lib.ListN.{length, drop}
use Rattle.spreadsheet.specs.paper.Quoting.{ends}
use Rattle.spreadsheet.specs.code.FieldSeen.{until}
use Rattle.spreadsheet.proofs.field.plain_end.Given as goal

abbrev pub invariant-loop-i : goal.invariant-loop-i
invariant-loop-i l = (l.i ≤ length l.s) × (l.i + until ends (drop l.i l.s) ≡ l.at + until ends (drop l.at l.s))

abbrev pub decreases-loop-i : goal.decreases-loop-i
decreases-loop-i l = length l.s - l.i
