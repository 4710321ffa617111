-- `word::same_in`: with the bytes that are left compared, the words are.
use mathlib.Core.Path.{◌≡◌}
use Prim.Native.Nat.{◌-◌, ◌≤◌}
use lib.ListN.{length, drop}
use Rattle.spreadsheet.specs.paper.RowRules.{same}
use Rattle.spreadsheet.specs.code.FieldSeen.{between}
use Rattle.spreadsheet.proofs.word.same_in.Given as goal

abbrev pub invariant-loop-i : goal.invariant-loop-i
invariant-loop-i l = (l.from ≤ l.i) × ((l.i ≤ l.to) × ((l.j ≤ length l.word) × (same (between l.s l.i l.to) (drop l.j l.word) ≡ same (between l.s l.from l.to) l.word)))

abbrev pub decreases-loop-i : goal.decreases-loop-i
decreases-loop-i l = l.to - l.i
