-- Laws of words in a part of the table.
use mathlib.Core.Path.{◌≡◌}
use mathlib.Core.Bool.{true, false}
use mathlib.Core.List.{List}
use Prim.Native.Nat.{ℕ, ◌+◌, ◌≤◌, ◌<◌}
use native.Mathlib.Numerals.{add-one}
use lib.ListN.{length, drop, get_or, drop_of_length-le}
use lib.Seq.{drop-cons}
use borrow.Author.Tests.{eq-eqb, ne_eqb}
use Rattle.spreadsheet.specs.paper.RowRules.{same}
use Rattle.spreadsheet.specs.code.FieldSeen.{between}
use Rattle.spreadsheet.proofs.BetweenLaws.{between_none, between_cons}

module _ (s w : List ℕ) (i j to : ℕ) where
  pub same_end : to ≤ i → length w ≤ j → true ≡ same (between s i to) (drop j w)
  unfolding same
  same_end h g = rw (between_none s i to h, drop_of_length-le w g)

  pub same-short : to ≤ i → j < length w → false ≡ same (between s i to) (drop j w)
  unfolding same
  same-short h g = rw (between_none s i to h, drop-cons w j 0 g)

  pub same-long : i < to → to ≤ length s → length w ≤ j → false ≡ same (between s i to) (drop j w)
  unfolding same
  same-long h k g = rw (between_cons s i to h k, drop_of_length-le w g)

  pub same-differ : i < to → to ≤ length s → j < length w → (get_or s i 0 ≡ get_or w j 0 → ⊥) → false ≡ same (between s i to) (drop j w)
  unfolding same
  same-differ h k g d = rw (between_cons s i to h k, drop-cons w j 0 g, ne_eqb (get_or s i 0) (get_or w j 0) d)

  pub same_step : i < to → to ≤ length s → j < length w → get_or s i 0 ≡ get_or w j 0 → same (between s (i + 1) to) (drop (j + 1) w) ≡ same (between s i to) (drop j w)
  unfolding same
  same_step h k g d = rw (between_cons s i to h k, drop-cons w j 0 g, eq-eqb (get_or s i 0) (get_or w j 0) d, add-one j)
