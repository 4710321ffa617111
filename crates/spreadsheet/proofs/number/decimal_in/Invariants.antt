-- `number::decimal_in`: with the digits that are left, the number is found; what is past the top stays so.
use mathlib.Core.Path.{◌≡◌}
use Prim.Native.Nat.{◌-◌, ◌≤◌}
use Rattle.spreadsheet.specs.paper.Numerals.{decimal_from}
use Rattle.spreadsheet.specs.code.FieldSeen.{between}
use Rattle.spreadsheet.proofs.number.decimal_in.Given as goal

abbrev pub invariant-loop-i : goal.invariant-loop-i
invariant-loop-i l = (l.from ≤ l.i) × ((l.i ≤ l.to) × ((l.v ≤ l.top) × (decimal_from l.top l.v (between l.s l.i l.to) ≡ decimal_from l.top 0 (between l.s l.from l.to))))
