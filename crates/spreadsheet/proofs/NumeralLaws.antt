-- Laws of numbers in a part of the table.
use mathlib.Core.Path.{◌≡◌, refl}
use mathlib.Core.Bool.{Bool, true, false, cond, not}
use mathlib.Core.List.{List, [], ◌∷◌}
use Prim.Native.Nat.{ℕ, ◌+◌, ◌*◌, ◌-◌, ◌≤◌, ◌<◌}
use native.Mathlib.Omega.{arith}
use lib.ListN.{length, get_or}
use lib.Dec.{eqb}
use borrow.Author.Tests.{le-leb, lt-leb}
use Rattle.spreadsheet.specs.paper.Numerals.{Number, is, digits, value_from, leads, decimal_from, number_of}
use Rattle.spreadsheet.specs.code.FieldSeen.{between}
use Rattle.spreadsheet.proofs.BetweenLaws.{between_none, between_cons}

module _ (top n : ℕ) where
  pub decimal_end : n ≤ top → is n ≡ decimal_from top n []
  unfolding decimal_from digits value_from
  decimal_end h = rw (le-leb n top h)

  pub read_low : (b : ℕ) (t : List ℕ) → b < 48 → Number.none ≡ decimal_from top n (b ∷ t)
  unfolding decimal_from digits value_from
  read_low b t h = rw (lt-leb 48 b h)

  pub read_high : (b : ℕ) (t : List ℕ) → 48 ≤ b → 57 < b → Number.none ≡ decimal_from top n (b ∷ t)
  unfolding decimal_from digits value_from
  read_high b t h g = rw (le-leb 48 b h, lt-leb b 57 g)

  pub read_step : (b : ℕ) (t : List ℕ) → 48 ≤ b → b ≤ 57 → decimal_from top n (b ∷ t) ≡ decimal_from top (10 * n + (b - 48)) t
  unfolding decimal_from digits value_from
  read_step b t h g = rw (le-leb 48 b h, le-leb b 57 g)

value-more : (n : ℕ) (t : List ℕ) → n ≤ value_from n t
unfolding value_from
value-more n [] = omega arith
value-more n (b ∷ t) = omega (arith, value-more (10 * n + (b - 48)) t)

pub if_either : {A : Type 0} (x : Bool) (b : A) → b ≡ cond x b b
if_either true b = refl
if_either false b = refl

-- digits do not lower a number, so what is too large stays so
pub decimal-over : (top n : ℕ) (t : List ℕ) → top < n → Number.none ≡ decimal_from top n t
unfolding decimal_from
decimal-over top n t h =
    let g : top < value_from n t = omega (arith, value-more n t) in
    rw (lt-leb (value_from n t) top g) (if_either (digits t) Number.none)

pub number-leads : (top : ℕ) (t : List ℕ) → true ≡ leads t → decimal_from top 0 t ≡ number_of top t
unfolding number_of
number-leads top t e = rw (← e)

pub number-not : (top : ℕ) (t : List ℕ) → false ≡ leads t → Number.none ≡ number_of top t
unfolding number_of
number-not top t e = rw (← e)

module _ (s : List ℕ) (from to : ℕ) where
  pub leads-none : to ≤ from → false ≡ leads (between s from to)
  leads-none h = rw (between_none s from to h)

  pub leads_one : from < to → to ≤ from + 1 → to ≤ length s → true ≡ leads (between s from to)
  leads_one h g k = rw (between_cons s from to h k, between_none s (from + 1) to g)

  pub leads-on : from + 1 < to → to ≤ length s → not (eqb (get_or s from 0) 48) ≡ leads (between s from to)
  leads-on g k =
      let h : from < to = omega arith in
      rw (between_cons s from to h k, between_cons s (from + 1) to g k)
