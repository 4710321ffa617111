-- `observations::said_unknown`: a fact was said to be unknown, or is by one of the records left.
use Prim.Native.Nat.{ℕ, ◌≤◌, ◌<◌}
use mathlib.Core.Path.{◌≡◌}
use mathlib.Core.Bool.{◌||◌}
use mathlib.Core.List.{map}
use lib.ListN.{length, take, drop}
use Rattle.sets.specs.paper.Sets.{has}
use Rattle.records.specs.code.Decoded.{boolean_of}
use Rattle.expressions.proofs.SeenLaws.{said}
use Rattle.expressions.proofs.observations.said_unknown.Given as goal

abbrev pub invariant-loop-i : goal.invariant-loop-i
invariant-loop-i l = (length l.booleans.items ≡ 64) × (l.i ≤ l.n) × ((f : ℕ) → f < 64 → (has l.m f || said (drop l.i (map boolean_of (take l.booleans.count l.booleans.items))) f) ≡ said (map boolean_of (take l.booleans.count l.booleans.items)) f)
