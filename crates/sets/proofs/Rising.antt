-- The order of sets as rising lists, by their digits.
use mathlib.Core.Path.{◌≡◌, refl, sym, ap, ap₂, ◌∙◌}
use mathlib.Core.Bool.{Bool, true, false, not, cond, true≢false}
use mathlib.Core.Logic.{◌⊎◌, inl, inr}
use mathlib.Core.List.{List, [], ◌∷◌}
use Prim.Native.Nat.{ℕ, zero, suc, ◌/◌, ◌%◌, ◌^◌, ◌≤◌, ◌<◌}
use native.Mathlib.Nat.{le_refl, le_of_lt, not-suc-le-zero, le_of_suc-le-suc, mod-lt, zero-lt-suc, div-one}
use native.Mathlib.Numerals.{one-add}
use native.Mathlib.Omega.{arith}
use lib.Dec.{eqb, ltb}
use lib.Arith.{digits_div, digits_mod, lt-one}
use lib.Pow.{shr-shr}
use lib.Bits.{bit_xor, differ, xor_step, xor_self}
use lib.Count.{count_trailing_zeros, under}
use borrow.Author.Tests.{eqb-true, eqb-false, eq-eqb, ne_eqb, lt-ltb, le-ltb}
use Rattle.sets.specs.paper.Sets.{has, odd, when, members_from, members, lex_less, rising_less}
use Rattle.sets.proofs.SetLaws.{has-zero, has-suc, has-none, has_xor, differs, ext, differ_lt}

-- ---- by the digits

step : ℕ → ℕ → ℕ → ℕ → Bool → Bool
step zero zero x y r = r
step zero (suc e) x y r = eqb x 0
step (suc d) zero x y r = not (eqb y 0)
step (suc d) (suc e) x y r = r

ris_n : ℕ → ℕ → ℕ → Bool
ris_n zero a b = false
ris_n (suc k) a b = step (a % 2) (b % 2) (a / 2) (b / 2) (ris_n k (a / 2) (b / 2))

-- a set's list: none, or a first person not before the start
Listed : ℕ → ℕ → List ℕ → Type 0
Listed p m l = ((m ≡ 0) × (l ≡ [])) ⊎ ((m ≡ 0 → ⊥) × ((y : ℕ) × (r : List ℕ) × (l ≡ y ∷ r) × (p ≤ y)))

listed : (k p m : ℕ) → m < 2 ^ k → Listed p m (members_from k p m)
unfolding members_from Listed
listed zero p m h = inl (lt-one h, refl)
listed (suc k) p m h = pick (m % 2) refl (listed k (suc p) (m / 2) (omega arith))
  where
    pick : (d : ℕ) → m % 2 ≡ d → Listed (suc p) (m / 2) (members_from k (suc p) (m / 2)) → Listed p m (when (m % 2) p (members_from k (suc p) (m / 2)))
    pick (suc d) e r = inr (λ z. omega arith, (p, members_from k (suc p) (m / 2), ap (λ (x : ℕ). when x p (members_from k (suc p) (m / 2))) e, le_refl p))
    pick zero e (inl r) = inl (let z = r.0 in omega arith, ap (λ (x : ℕ). when x p (members_from k (suc p) (m / 2))) e ∙ r.1)
    pick zero e (inr r) =
        inr (λ z. r.0 (omega arith), (r.1.0, r.1.1, ap (λ (x : ℕ). when x p (members_from k (suc p) (m / 2))) e ∙ r.1.2, le_of_lt r.1.3))

lex_when : (d e p x y : ℕ) (xs ys : List ℕ) (r : Bool) → Listed (suc p) x xs → Listed (suc p) y ys → lex_less xs ys ≡ r
    → lex_less (when d p xs) (when e p ys) ≡ step d e x y r
unfolding lex_less step Listed
lex_when zero zero p x y xs ys r hx hy h = h
lex_when (suc d) (suc e) p x y xs ys r hx hy h = ap (λ (b : Bool). cond b (lex_less xs ys) (ltb p p)) (eq-eqb p p refl) ∙ h
lex_when zero (suc e) p x y xs ys r (inl hx) hy h = ap (λ (l : List ℕ). lex_less l (p ∷ ys)) hx.1 ∙ sym (eq-eqb x 0 hx.0)
lex_when zero (suc e) p x y xs ys r (inr hx) hy h =
    ap (λ (l : List ℕ). lex_less l (p ∷ ys)) hx.1.2
    ∙ ap₂ (λ (b c : Bool). cond b (lex_less hx.1.1 ys) c) (ne_eqb hx.1.0 p (λ z. let l = hx.1.3 in omega arith)) (le-ltb hx.1.0 p (le_of_lt hx.1.3))
    ∙ sym (ne_eqb x 0 hx.0)
lex_when (suc d) zero p x y xs ys r hx (inl hy) h = ap (lex_less (p ∷ xs)) hy.1 ∙ ap not (sym (eq-eqb y 0 hy.0))
lex_when (suc d) zero p x y xs ys r hx (inr hy) h =
    ap (lex_less (p ∷ xs)) hy.1.2
    ∙ ap₂ (λ (b c : Bool). cond b (lex_less xs hy.1.1) c) (ne_eqb p hy.1.0 (λ z. let l = hy.1.3 in omega arith)) (lt-ltb p hy.1.0 hy.1.3)
    ∙ ap not (sym (ne_eqb y 0 hy.0))

lex_ris : (k p a b : ℕ) → a < 2 ^ k → b < 2 ^ k → lex_less (members_from k p a) (members_from k p b) ≡ ris_n k a b
unfolding members_from ris_n lex_less
lex_ris zero p a b ha hb = refl
lex_ris (suc k) p a b ha hb =
    lex_when (a % 2) (b % 2) p (a / 2) (b / 2) (members_from k (suc p) (a / 2)) (members_from k (suc p) (b / 2)) (ris_n k (a / 2) (b / 2))
    (listed k (suc p) (a / 2) (omega arith)) (listed k (suc p) (b / 2) (omega arith))
    (lex_ris k (suc p) (a / 2) (b / 2) (omega arith) (omega arith))

-- ---- by the lowest digit in which they differ

-- what the code tests at the place t
code_at : ℕ → ℕ → ℕ → Bool
code_at a b t = cond (has a t) (not (eqb (b / 2 ^ t) 0)) (eqb (a / 2 ^ t) 0)

shift_suc : (m t : ℕ) → m / 2 ^ suc t ≡ m / 2 / 2 ^ t
shift_suc m t = ap (λ (x : ℕ). m / 2 ^ x) (sym (one-add t)) ∙ sym (shr-shr m 1 t)

code_at_suc : (a b t : ℕ) → code_at (a / 2) (b / 2) t ≡ code_at a b (suc t)
unfolding code_at
code_at_suc a b t =
    ap₂ (λ (h : Bool) (x : ℕ). cond h (not (eqb x 0)) (eqb (a / 2 / 2 ^ t) 0)) (sym (has-suc a t)) (sym (shift_suc b t))
    ∙ ap (λ (x : ℕ). cond (has a (suc t)) (not (eqb (b / 2 ^ suc t) 0)) (eqb x 0)) (sym (shift_suc a t))

even_zero : (m : ℕ) → m % 2 ≡ 0 → eqb (m / 2) 0 ≡ eqb m 0
even_zero m e = pick (eqb (m / 2) 0) refl
  where
    pick : (b : Bool) → eqb (m / 2) 0 ≡ b → eqb (m / 2) 0 ≡ eqb m 0
    pick true k = k ∙ sym (eq-eqb m 0 (let z = eqb-true (m / 2) 0 k in omega arith))
    pick false k = k ∙ sym (ne_eqb m 0 (λ z. eqb-false (m / 2) 0 k (omega arith)))

code_at_zero : (a b : ℕ) → code_at a b 0 ≡ cond (odd (a % 2)) (not (eqb b 0)) (eqb a 0)
unfolding code_at
code_at_zero a b =
    ap₂ (λ (h : Bool) (x : ℕ). cond h (not (eqb x 0)) (eqb (a / 1) 0)) (has-zero a) (div-one b)
    ∙ ap (λ (x : ℕ). cond (odd (a % 2)) (not (eqb b 0)) (eqb x 0)) (div-one a)

xor_half : (a b : ℕ) → differ (a % 2) (b % 2) < 2 → bit_xor a b / 2 ≡ bit_xor (a / 2) (b / 2)
xor_half a b h = ap (λ (x : ℕ). x / 2) (xor_step a b) ∙ digits_div (bit_xor (a / 2) (b / 2)) h

xor_low : (a b : ℕ) → differ (a % 2) (b % 2) < 2 → bit_xor a b % 2 ≡ differ (a % 2) (b % 2)
xor_low a b h = ap (λ (x : ℕ). x % 2) (xor_step a b) ∙ digits_mod (bit_xor (a / 2) (b / 2)) h

ris_code : (k a b : ℕ) → a < 2 ^ k → b < 2 ^ k → (a ≡ b → ⊥) → ris_n k a b ≡ code_at a b (count_trailing_zeros k (bit_xor a b))
unfolding ris_n count_trailing_zeros step
ris_code zero a b ha hb n = absurd (n (lt-one ha ∙ sym (lt-one hb)))
ris_code (suc k) a b ha hb n =
    pick (a % 2) (b % 2) refl refl (mod-lt a (zero-lt-suc 1)) (mod-lt b (zero-lt-suc 1)) (λ d. ris_code k (a / 2) (b / 2) (omega arith) (omega arith) d)
    ∙ ap (code_at a b) (ap₂ (λ (x y : ℕ). under x (count_trailing_zeros k y)) (sym (xor_low a b small)) (sym (xor_half a b small)))
  where
    small : differ (a % 2) (b % 2) < 2
    small = differ_lt (a % 2) (b % 2) (mod-lt a (zero-lt-suc 1)) (mod-lt b (zero-lt-suc 1))

    t : ℕ
    t = count_trailing_zeros k (bit_xor (a / 2) (b / 2))

    Goal : ℕ → ℕ → Type 0
    Goal d e = step d e (a / 2) (b / 2) (ris_n k (a / 2) (b / 2)) ≡ code_at a b (under (differ d e) t)

    pick : (d e : ℕ) → a % 2 ≡ d → b % 2 ≡ e → d < 2 → e < 2 → ((a / 2 ≡ b / 2 → ⊥) → ris_n k (a / 2) (b / 2) ≡ code_at (a / 2) (b / 2) t) → Goal d e
    pick zero zero p q ld le ih = ih (λ z. n (omega arith)) ∙ code_at_suc a b t
    pick (suc zero) (suc zero) p q ld le ih = ih (λ z. n (omega arith)) ∙ code_at_suc a b t
    pick zero (suc e) p q ld le ih =
        even_zero a p ∙ sym (code_at_zero a b ∙ ap (λ (x : ℕ). cond (odd x) (not (eqb b 0)) (eqb a 0)) p)
    pick (suc d) zero p q ld le ih =
        ap not (even_zero b q) ∙ sym (code_at_zero a b ∙ ap (λ (x : ℕ). cond (odd x) (not (eqb b 0)) (eqb a 0)) p)
    pick (suc zero) (suc (suc e)) p q ld le ih = absurd (not-suc-le-zero (le_of_suc-le-suc (le_of_suc-le-suc le)))
    pick (suc (suc d)) (suc e) p q ld le ih = absurd (not-suc-le-zero (le_of_suc-le-suc (le_of_suc-le-suc ld)))

ris_same : (k a : ℕ) → ris_n k a a ≡ false
unfolding ris_n step
ris_same zero a = refl
ris_same (suc k) a = pick (a % 2) ∙ ris_same k (a / 2)
  where
    pick : (d : ℕ) → step d d (a / 2) (a / 2) (ris_n k (a / 2) (a / 2)) ≡ ris_n k (a / 2) (a / 2)
    pick zero = refl
    pick (suc d) = refl

-- ---- what the code's branches are

differs_false : (x y : Bool) → differs x y ≡ false → x ≡ y
differs_false true true e = refl
differs_false true false e = absurd (true≢false e)
differs_false false y e = sym e

pub xor_zero : (a b : ℕ) → bit_xor a b ≡ 0 → a ≡ b
xor_zero a b e = ext a b (λ p. differs_false (has a p) (has b p) (sym (has_xor a b p) ∙ ap (λ (x : ℕ). has x p) e ∙ has-none p))

pub rising-same : (a b : ℕ) → a < 2 ^ 64 → b < 2 ^ 64 → bit_xor a b ≡ 0 → rising_less a b ≡ false
unfolding rising_less members
rising-same a b ha hb e = lex_ris 64 0 a b ha hb ∙ ap (ris_n 64 a) (sym (xor_zero a b e)) ∙ ris_same 64 a

rising_at : (a b : ℕ) → a < 2 ^ 64 → b < 2 ^ 64 → (bit_xor a b ≡ 0 → ⊥) → rising_less a b ≡ code_at a b (count_trailing_zeros 64 (bit_xor a b))
unfolding rising_less members
rising_at a b ha hb n = lex_ris 64 0 a b ha hb ∙ ris_code 64 a b ha hb (λ e. n (ap (bit_xor a) (sym e) ∙ xor_self a))

pub rising_in : (a b : ℕ) → a < 2 ^ 64 → b < 2 ^ 64 → (bit_xor a b ≡ 0 → ⊥) → has a (count_trailing_zeros 64 (bit_xor a b)) ≡ true
    → rising_less a b ≡ not (eqb (b / 2 ^ count_trailing_zeros 64 (bit_xor a b)) 0)
unfolding code_at
rising_in a b ha hb n h =
    rising_at a b ha hb n ∙ ap (λ (x : Bool). cond x (not (eqb (b / 2 ^ count_trailing_zeros 64 (bit_xor a b)) 0)) (eqb (a / 2 ^ count_trailing_zeros 64 (bit_xor a b)) 0)) h

pub rising-out : (a b : ℕ) → a < 2 ^ 64 → b < 2 ^ 64 → (bit_xor a b ≡ 0 → ⊥) → has a (count_trailing_zeros 64 (bit_xor a b)) ≡ false
    → rising_less a b ≡ eqb (a / 2 ^ count_trailing_zeros 64 (bit_xor a b)) 0
unfolding code_at
rising-out a b ha hb n h =
    rising_at a b ha hb n ∙ ap (λ (x : Bool). cond x (not (eqb (b / 2 ^ count_trailing_zeros 64 (bit_xor a b)) 0)) (eqb (a / 2 ^ count_trailing_zeros 64 (bit_xor a b)) 0)) h
