-- A number in base ten is the digits of its tenth and its last digit; and how many digits there are.
use mathlib.Core.Path.{◌≡◌, refl, sym, ap, ◌∙◌, subst}
use mathlib.Core.Bool.{Bool, true, false, cond}
use mathlib.Core.List.{List, [], ◌∷◌, ◌++◌}
use Prim.Native.Nat.{ℕ, zero, suc, ◌+◌, ◌*◌, ◌/◌, ◌%◌, ◌≤◌, ◌<◌}
use native.Mathlib.Omega.{arith}
use lib.ListN.{length, length-append}
use lib.Dec.{ltb}
use borrow.Author.Tests.{ltb-true, ltb-false, le-ltb, lt-ltb}
use Rattle.page.specs.Decimal.{digit, decimal_with, decimal}

-- any number of digits that is enough gives the same
enough : (k j n : ℕ) → n ≤ k → n ≤ j → decimal_with k n ≡ decimal_with j n
unfolding decimal_with
enough zero zero n h i = refl
enough zero (suc j) n h i = sym (ap (λ (b : Bool). cond b (digit n ∷ []) (decimal_with j (n / 10) ++ (digit (n % 10) ∷ []))) (lt-ltb n 10 (omega arith)))
enough (suc k) zero n h i = ap (λ (b : Bool). cond b (digit n ∷ []) (decimal_with k (n / 10) ++ (digit (n % 10) ∷ []))) (lt-ltb n 10 (omega arith))
enough (suc k) (suc j) n h i = ap (λ (s : List ℕ). cond (ltb n 10) (digit n ∷ []) (s ++ (digit (n % 10) ∷ []))) (enough k j (n / 10) (omega arith) (omega arith))

pub decimal_step : (n : ℕ) → decimal n ≡ cond (ltb n 10) (digit n ∷ []) (decimal (n / 10) ++ (digit (n % 10) ∷ []))
unfolding decimal decimal_with
decimal_step zero = refl
decimal_step (suc m) = ap (λ (s : List ℕ). cond (ltb (suc m) 10) (digit (suc m) ∷ []) (s ++ (digit (suc m % 10) ∷ []))) (enough m (suc m / 10) (suc m / 10) (omega arith) (omega arith))

pub decimal-low : (n : ℕ) → n < 10 → decimal n ≡ digit n ∷ []
decimal-low n h = decimal_step n ∙ ap (λ (b : Bool). cond b (digit n ∷ []) (decimal (n / 10) ++ (digit (n % 10) ∷ []))) (lt-ltb n 10 h)

pub decimal_high : (n : ℕ) → 10 ≤ n → decimal n ≡ decimal (n / 10) ++ (digit (n % 10) ∷ [])
decimal_high n h = decimal_step n ∙ ap (λ (b : Bool). cond b (digit n ∷ []) (decimal (n / 10) ++ (digit (n % 10) ∷ []))) (le-ltb n 10 h)

-- one digit more for ten times as much
module _ (k m : ℕ) (below : (n : ℕ) → n < m → length (decimal n) ≤ k) (some : 1 ≤ k) where
  pub digits_more : (n : ℕ) → n < 10 * m → length (decimal n) ≤ k + 1
  digits_more n h = pick (ltb n 10) refl
    where
      pick : (b : Bool) → ltb n 10 ≡ b → length (decimal n) ≤ k + 1
      pick true e = subst (λ (s : List ℕ). length s ≤ k + 1) (sym (decimal-low n (ltb-true n 10 e))) (omega arith)
      pick false e =
          let less = below (n / 10) (omega arith) in
          let long = length-append (decimal (n / 10)) (digit (n % 10) ∷ []) in
          subst (λ (s : List ℕ). length s ≤ k + 1) (sym (decimal_high n (ltb-false n 10 e))) (omega arith)

pub one-digit : (n : ℕ) → n < 10 → length (decimal n) ≤ 1
one-digit n h = subst (λ (s : List ℕ). length s ≤ 1) (sym (decimal-low n h)) (omega arith)

pub two_digits : (n : ℕ) → n < 100 → length (decimal n) ≤ 2
two_digits = digits_more 1 10 one-digit (omega arith)

pub three_digits : (n : ℕ) → n < 1000 → length (decimal n) ≤ 3
three_digits = digits_more 2 100 two_digits (omega arith)
