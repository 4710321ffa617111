-- Up to sixteen bytes, copied.
use mathlib.Core.Path.{◌≡◌}
use Prim.Native.Nat.{◌-◌, ◌≤◌}
use lib.ListN.{length, take}
use Rattle.records.specs.code.Readers.{bytes_from}
use Rattle.records.proofs.fields.lists.numbers_from.Given as goal

abbrev pub invariant-loop-i : goal.invariant-loop-i
invariant-loop-i l = (l.i ≤ l.n) × (length l.items ≡ 16) × (take l.i l.items ≡ bytes_from l.s l.first l.i)
