-- Laws of a part of the table.
use mathlib.Core.Path.{◌≡◌}
use mathlib.Core.Bool.{true, false}
use mathlib.Core.List.{List, [], ◌∷◌}
use Prim.Native.Nat.{ℕ, suc, ◌+◌, ◌-◌, ◌≤◌, ◌<◌}
use native.Mathlib.Numerals.{add-one}
use native.Mathlib.Omega.{arith}
use lib.ListN.{length, get_or}
use lib.Seq.{drop-cons}
use lib.Dec.{eqb, eqb-suc-zero}
use Rattle.spreadsheet.specs.code.FieldSeen.{between}

module _ (s : List ℕ) (i to : ℕ) where
  pub between_none : to ≤ i → between s i to ≡ []
  between_none h =
      let e : to - i ≡ 0 = omega arith in
      rw e

  pub between_cons : i < to → to ≤ length s → between s i to ≡ get_or s i 0 ∷ between s (i + 1) to
  between_cons h g =
      let e : to - i ≡ suc (to - suc i) = omega arith in
      let l : i < length s = omega arith in
      rw (add-one, drop-cons s i 0 l, e)

pub empty_not : (s : List ℕ) (i to : ℕ) → i < to → to ≤ length s → eqb (length (between s i to)) 0 ≡ false
empty_not s i to h k = rw (between_cons s i to h k) (eqb-suc-zero (length (between s (i + 1) to)))

pub empty_is : (s : List ℕ) (i to : ℕ) → to ≤ i → eqb (length (between s i to)) 0 ≡ true
empty_is s i to h = rw (between_none s i to h)
