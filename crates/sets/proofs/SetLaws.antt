-- Laws of sets of persons. They hold for every number, so no bound is carried; what fits a u64 is said apart, by `< 2 ^ 64`.
use mathlib.Core.Path.{◌≡◌, refl, sym, ap, ap₂, ◌∙◌, subst}
use mathlib.Core.Bool.{Bool, true, false, not, ◌&&◌, ◌||◌, true≢false, false≢true}
use mathlib.Core.Logic.{◌⊎◌, inl, inr, ⊎_elim}
use Prim.Native.Nat.{ℕ, zero, suc, ◌+◌, ◌-◌, ◌*◌, ◌/◌, ◌%◌, ◌^◌, ◌≤◌, ◌<◌, min, max}
use native.Mathlib.Nat.{mod-lt, zero-lt-suc, zero-min, min-zero, suc-min-suc, zero-max, max-zero, suc-max-suc, not-suc-le-zero, zero-div, pow-suc, mul-div_cancel, mul-mod_left, le_of_suc-le-suc}
use native.Mathlib.Numerals.{one-add}
use native.Mathlib.Omega.{arith}
use lib.Dec.{eqb, eqb-zero-suc, eqb-suc-zero, eqb-suc-suc}
use borrow.Author.Tests.{eqb-true, eqb-false, eq-eqb, ne_eqb}
use lib.Arith.{digits_mod, bin_ind}
use lib.Pow.{shr-shr}
use lib.Bits.{bit_and, bit_or, bit_xor, differ, and_step, or_step, xor_step, and_shr, or_shr, xor_shr, and_lt, or_lt, xor_lt}
use lib.Count.{ones_in, ones, ones_step, count_trailing_zeros, under}
use Rattle.sets.specs.paper.Sets.{odd, has, one, union, meet, minus, disjoint, subset, size}

-- ---- a digit as a test, and membership

-- every member of a is one of b
pub record Within (a b : ℕ) : Type 0 where
  pub at : (p : ℕ) → has a p ≡ true → has b p ≡ true

two_pos : zero < 2
two_pos = zero-lt-suc 1

pub has-zero : (m : ℕ) → has m 0 ≡ odd (m % 2)
unfolding has
has-zero m = ap (λ (x : ℕ). odd (x % 2)) (native.Mathlib.Nat.div-one m)

pub has-suc : (m p : ℕ) → has m (suc p) ≡ has (m / 2) p
unfolding has
has-suc m p = ap (λ (x : ℕ). odd (m / 2 ^ x % 2)) (sym (one-add p)) ∙ ap (λ (x : ℕ). odd (x % 2)) (sym (shr-shr m 1 p))

pub has-none : (p : ℕ) → has 0 p ≡ false
unfolding has
has-none p = ap (λ (x : ℕ). odd (x % 2)) (zero-div (2 ^ p))

-- ---- equal digits, equal numbers

odd_inj : (x y : ℕ) → x < 2 → y < 2 → odd x ≡ odd y → x ≡ y
odd_inj zero zero hx hy e = refl
odd_inj zero (suc y) hx hy e = absurd (false≢true e)
odd_inj (suc x) zero hx hy e = absurd (true≢false e)
odd_inj (suc x) (suc y) hx hy e = omega arith

halves : (a b : ℕ) → a / 2 ≡ b / 2 → a % 2 ≡ b % 2 → a ≡ b
halves a b h l = omega arith

digit0 : (a b : ℕ) → ((p : ℕ) → has a p ≡ has b p) → a % 2 ≡ b % 2
digit0 a b h = odd_inj (a % 2) (b % 2) (mod-lt a two_pos) (mod-lt b two_pos) (sym (has-zero a) ∙ h 0 ∙ has-zero b)

digits↑ : (a b : ℕ) → ((p : ℕ) → has a p ≡ has b p) → (p : ℕ) → has (a / 2) p ≡ has (b / 2) p
digits↑ a b h p = sym (has-suc a p) ∙ h (suc p) ∙ has-suc b p

ext_zero : (b : ℕ) → ((p : ℕ) → has 0 p ≡ has b p) → 0 ≡ b
ext_zero =
    bin_ind (λ (b : ℕ). ((p : ℕ) → has 0 p ≡ has b p) → 0 ≡ b) (λ h. refl)
    (λ b ih h. halves 0 b (ih (digits↑ 0 b h)) (digit0 0 b h))

-- EXTENSIONALITY: two masks with the same members are one number
pub ext : (a b : ℕ) → ((p : ℕ) → has a p ≡ has b p) → a ≡ b
ext =
    bin_ind (λ (a : ℕ). (b : ℕ) → ((p : ℕ) → has a p ≡ has b p) → a ≡ b) ext_zero
    (λ a ih b h. halves a b (ih (b / 2) (digits↑ a b h)) (digit0 a b h))

-- ---- the operations, as the code's operators denote them: `|`, `&`, and `a ^ (a & b)`, which is `a & !b` on u64

odd-min : (x y : ℕ) → odd (min x y) ≡ (odd x && odd y)
odd-min zero y = ap odd (zero-min y)
odd-min (suc x) zero = ap odd (min-zero (suc x))
odd-min (suc x) (suc y) = ap odd (suc-min-suc x y)

odd-max : (x y : ℕ) → odd (max x y) ≡ (odd x || odd y)
odd-max zero y = ap odd (zero-max y)
odd-max (suc x) zero = ap odd (max-zero (suc x))
odd-max (suc x) (suc y) = ap odd (suc-max-suc x y)

abbrev pub differs : Bool → Bool → Bool
differs true b = not b
differs false b = b

odd-differ : (x y : ℕ) → x < 2 → y < 2 → odd (differ x y) ≡ differs (odd x) (odd y)
odd-differ zero y hx hy = refl
odd-differ (suc x) zero hx hy = refl
odd-differ (suc zero) (suc zero) hx hy = refl
odd-differ (suc zero) (suc (suc y)) hx hy = absurd (not-suc-le-zero (le_of_suc-le-suc (le_of_suc-le-suc hy)))
odd-differ (suc (suc x)) (suc y) hx hy = absurd (not-suc-le-zero (le_of_suc-le-suc (le_of_suc-le-suc hx)))

pub differ_lt : (x y : ℕ) → x < 2 → y < 2 → differ x y < 2
differ_lt zero y hx hy = hy
differ_lt (suc x) zero hx hy = hx
differ_lt (suc zero) (suc zero) hx hy = zero-lt-suc 1
differ_lt (suc zero) (suc (suc y)) hx hy = absurd (not-suc-le-zero (le_of_suc-le-suc (le_of_suc-le-suc hy)))
differ_lt (suc (suc x)) (suc y) hx hy = absurd (not-suc-le-zero (le_of_suc-le-suc (le_of_suc-le-suc hx)))

pub has-and : (a b p : ℕ) → has (bit_and a b) p ≡ (has a p && has b p)
unfolding has
has-and a b p =
    let x = a / 2 ^ p in
    let y = b / 2 ^ p in
    ap (λ (z : ℕ). odd (z % 2)) (and_shr a b p ∙ and_step x y)
    ∙ ap odd (digits_mod (bit_and (x / 2) (y / 2)) (omega arith))
    ∙ odd-min (x % 2) (y % 2)

pub has_or : (a b p : ℕ) → has (bit_or a b) p ≡ (has a p || has b p)
unfolding has
has_or a b p =
    let x = a / 2 ^ p in
    let y = b / 2 ^ p in
    ap (λ (z : ℕ). odd (z % 2)) (or_shr a b p ∙ or_step x y)
    ∙ ap odd (digits_mod (bit_or (x / 2) (y / 2)) (omega arith))
    ∙ odd-max (x % 2) (y % 2)

pub has_xor : (a b p : ℕ) → has (bit_xor a b) p ≡ differs (has a p) (has b p)
unfolding has
has_xor a b p =
    let x = a / 2 ^ p in
    let y = b / 2 ^ p in
    ap (λ (z : ℕ). odd (z % 2)) (xor_shr a b p ∙ xor_step x y)
    ∙ ap odd (digits_mod (bit_xor (x / 2) (y / 2)) (differ_lt (x % 2) (y % 2) (mod-lt x two_pos) (mod-lt y two_pos)))
    ∙ odd-differ (x % 2) (y % 2) (mod-lt x two_pos) (mod-lt y two_pos)

differs_and : (x y : Bool) → differs x (x && y) ≡ (x && not y)
differs_and true y = refl
differs_and false y = refl

pub has-union : (a b p : ℕ) → has (union a b) p ≡ (has a p || has b p)
unfolding union
has-union a b p = has_or a b p

pub has_meet : (a b p : ℕ) → has (meet a b) p ≡ (has a p && has b p)
unfolding meet
has_meet a b p = has-and a b p

pub has-minus : (a b p : ℕ) → has (minus a b) p ≡ (has a p && not (has b p))
unfolding minus
has-minus a b p = has_xor a (bit_and a b) p ∙ ap (differs (has a p)) (has-and a b p) ∙ differs_and (has a p) (has b p)

-- 2 ^ p has the one member p
pub has_pow : (p q : ℕ) → has (2 ^ p) q ≡ eqb p q
has_pow zero zero = has-zero 1
has_pow zero (suc q) = has-suc 1 q ∙ has-none q ∙ sym (eqb-zero-suc q)
has_pow (suc p) zero = has-zero (2 ^ suc p) ∙ ap odd (ap (λ (x : ℕ). x % 2) (pow-suc 2 p) ∙ mul-mod_left (2 ^ p) 2) ∙ sym (eqb-suc-zero p)
has_pow (suc p) (suc q) =
    has-suc (2 ^ suc p) q
    ∙ ap (λ (x : ℕ). has x q) (ap (λ (x : ℕ). x / 2) (pow-suc 2 p) ∙ mul-div_cancel (2 ^ p) two_pos)
    ∙ has_pow p q ∙ sym (eqb-suc-suc p q)

pub has_one : (p q : ℕ) → has (one p) q ≡ eqb p q
unfolding one
has_one p q = has_pow p q

-- ---- a number that is not 0 has a member

pub member : (m : ℕ) → (m ≡ 0 → ⊥) → (p : ℕ) × (has m p ≡ true)
member =
    bin_ind (λ (m : ℕ). (m ≡ 0 → ⊥) → (p : ℕ) × (has m p ≡ true)) (λ h. absurd (h refl))
    (λ m ih h. pick m ih h (m % 2) refl)
  where
    pick : (m : ℕ) → ((m / 2 ≡ 0 → ⊥) → (p : ℕ) × (has (m / 2) p ≡ true)) → (m ≡ 0 → ⊥) → (d : ℕ) → m % 2 ≡ d → (p : ℕ) × (has m p ≡ true)
    pick m ih h zero e =
        let r = ih (λ z. h (omega arith)) in
        (suc r.0, has-suc m r.0 ∙ r.1)
    pick m ih h (suc d) e = (0, has-zero m ∙ ap odd e)

-- no member: the empty set
pub empty : (m : ℕ) → ((p : ℕ) → has m p ≡ true → ⊥) → m ≡ 0
empty m h = ext m 0 (λ p. pick p (has m p) refl)
  where
    pick : (p : ℕ) (b : Bool) → has m p ≡ b → has m p ≡ has 0 p
    pick p true e = absurd (h p e)
    pick p false e = e ∙ sym (has-none p)

-- a set in itself, in an equal one, and in what holds one that holds it
pub within-refl : (a : ℕ) → Within a a
within-refl a = record { at = λ p h. h }

pub along : {a b : ℕ} → a ≡ b → Within a b
along e = record { at = λ p h. ap (λ (x : ℕ). has x p) (sym e) ∙ h }

pub thru : {a b c : ℕ} → Within a b → Within b c → Within a c
thru f g = record { at = λ p h. g.at p (f.at p h) }

-- subset both ways
pub antisym : (a b : ℕ) → Within a b → Within b a → a ≡ b
antisym a b f g = ext a b (λ p. pick p (has a p) (has b p) refl refl)
  where
    pick : (p : ℕ) (x y : Bool) → has a p ≡ x → has b p ≡ y → has a p ≡ has b p
    pick p true y e k = e ∙ sym (f.at p e)
    pick p false true e k = g.at p k ∙ sym k
    pick p false false e k = e ∙ sym k

-- ---- tests

pub and_parts : (x y : Bool) → (x && y) ≡ true → (x ≡ true) × (y ≡ true)
and_parts true y e = (refl, e)
and_parts false y e = absurd (false≢true e)

pub eqb_swap : (a b : ℕ) → eqb a b ≡ eqb b a
eqb_swap a b = pick (eqb a b) refl
  where
    pick : (t : Bool) → eqb a b ≡ t → eqb a b ≡ eqb b a
    pick true e = e ∙ sym (eq-eqb b a (sym (eqb-true a b e)))
    pick false e = e ∙ sym (ne_eqb b a (λ k. eqb-false a b e (sym k)))

and-not-parts : (x y : Bool) → (x && not y) ≡ true → (x ≡ true) × (y ≡ false)
and-not-parts true true e = absurd (false≢true e)
and-not-parts true false e = (refl, refl)
and-not-parts false y e = absurd (false≢true e)

pub in_meet : (a b p : ℕ) → has a p ≡ true → has b p ≡ true → has (meet a b) p ≡ true
in_meet a b p e k = has_meet a b p ∙ ap₂ ◌&&◌ e k

pub of_meet : (a b p : ℕ) → has (meet a b) p ≡ true → (has a p ≡ true) × (has b p ≡ true)
of_meet a b p e = and_parts (has a p) (has b p) (sym (has_meet a b p) ∙ e)

pub in_minus : (a b p : ℕ) → has a p ≡ true → has b p ≡ false → has (minus a b) p ≡ true
in_minus a b p e k = has-minus a b p ∙ ap₂ (λ (x y : Bool). x && not y) e k

pub of_minus : (a b p : ℕ) → has (minus a b) p ≡ true → (has a p ≡ true) × (has b p ≡ false)
of_minus a b p e = and-not-parts (has a p) (has b p) (sym (has-minus a b p) ∙ e)

or-true : (x : Bool) → (x || true) ≡ true
or-true true = refl
or-true false = refl

pub or_parts : (x y : Bool) → (x || y) ≡ true → (x ≡ true) ⊎ (y ≡ true)
or_parts true y e = inl refl
or_parts false y e = inr e

pub in_union_l : (a b : ℕ) → Within a (union a b)
in_union_l a b = record { at = λ p e. has-union a b p ∙ ap (λ (x : Bool). x || has b p) e }

pub in_union_r : (a b : ℕ) → Within b (union a b)
in_union_r a b = record { at = λ p e. has-union a b p ∙ ap (λ (y : Bool). has a p || y) e ∙ or-true (has a p) }

pub of_union : (a b p : ℕ) → has (union a b) p ≡ true → (has a p ≡ true) ⊎ (has b p ≡ true)
of_union a b p e = or_parts (has a p) (has b p) (sym (has-union a b p) ∙ e)

no_member : (m p : ℕ) → m ≡ 0 → has m p ≡ true → ⊥
no_member m p e h = false≢true (sym (has-none p) ∙ ap (λ (x : ℕ). has x p) (sym e) ∙ h)

-- a & b == 0
pub disjoint-true : (a b : ℕ) → disjoint a b ≡ true → (p : ℕ) → has a p ≡ true → has b p ≡ true → ⊥
unfolding disjoint
disjoint-true a b e p x y = no_member (meet a b) p (eqb-true (meet a b) 0 e) (in_meet a b p x y)

pub disjoint-false : (a b : ℕ) → disjoint a b ≡ false → (p : ℕ) × (has a p ≡ true) × (has b p ≡ true)
unfolding disjoint
disjoint-false a b e =
    let r = member (meet a b) (eqb-false (meet a b) 0 e) in
    let s = of_meet a b r.0 r.1 in
    (r.0, s.0, s.1)

pub apart : (a b : ℕ) → ((p : ℕ) → has a p ≡ true → has b p ≡ true → ⊥) → disjoint a b ≡ true
unfolding disjoint
apart a b h = eq-eqb (meet a b) 0 (empty (meet a b) (λ p e. h p (of_meet a b p e).0 (of_meet a b p e).1))

pub meeting : (a b p : ℕ) → has a p ≡ true → has b p ≡ true → disjoint a b ≡ false
unfolding disjoint
meeting a b p x y = ne_eqb (meet a b) 0 (λ z. no_member (meet a b) p z (in_meet a b p x y))

-- a & !b == 0
pub subset-true : (a b : ℕ) → subset a b ≡ true → Within a b
unfolding subset
subset-true a b e = record { at = λ p x. pick p x (has b p) refl }
  where
    pick : (p : ℕ) → has a p ≡ true → (y : Bool) → has b p ≡ y → has b p ≡ true
    pick p x true k = k
    pick p x false k = absurd (no_member (minus a b) p (eqb-true (minus a b) 0 e) (in_minus a b p x k))

pub subset-false : (a b : ℕ) → subset a b ≡ false → (p : ℕ) × (has a p ≡ true) × (has b p ≡ false)
unfolding subset
subset-false a b e =
    let r = member (minus a b) (eqb-false (minus a b) 0 e) in
    let s = of_minus a b r.0 r.1 in
    (r.0, s.0, s.1)

pub within-subset : (a b : ℕ) → Within a b → subset a b ≡ true
unfolding subset
within-subset a b h = eq-eqb (minus a b) 0 (empty (minus a b) (λ p e. true≢false (sym (h.at p (of_minus a b p e).0) ∙ (of_minus a b p e).1)))

-- ---- bounds

pub has_high : (k m p : ℕ) → m < 2 ^ k → k ≤ p → has m p ≡ false
unfolding has
has_high k m p h l = ap (λ (x : ℕ). odd (x % 2)) (native.Mathlib.Nat.div-eq_of_lt (native.Mathlib.Nat.lt_of_lt_of_le h (lib.Pow.pow_mono l)))

pub union_lt : (k a b : ℕ) → a < 2 ^ k → b < 2 ^ k → union a b < 2 ^ k
unfolding union
union_lt k a b = or_lt k a b

pub meet_lt : (k a b : ℕ) → a < 2 ^ k → b < 2 ^ k → meet a b < 2 ^ k
unfolding meet
meet_lt k a b = and_lt k a b

pub minus_lt : (k a b : ℕ) → a < 2 ^ k → b < 2 ^ k → minus a b < 2 ^ k
unfolding minus
minus_lt k a b ha hb = xor_lt k a (bit_and a b) ha (and_lt k a b ha hb)

pub one_lt : (k p : ℕ) → p < k → one p < 2 ^ k
unfolding one
one_lt k p h = lib.Pow.pow-lt h

-- ---- the complement in k digits, which `!b` is at k = 64

pub has-not : (k m p : ℕ) → m < 2 ^ k → p < k → has ((2 ^ k - 1) - m) p ≡ not (has m p)
has-not zero m p h l = absurd (not-suc-le-zero l)
has-not (suc k) m zero h l = has-zero ((2 ^ suc k - 1) - m) ∙ flip (m % 2) (((2 ^ suc k - 1) - m) % 2) (mod-lt m two_pos) (omega arith) ∙ ap not (sym (has-zero m))
  where
    flip : (x y : ℕ) → x < 2 → y + x ≡ 1 → odd y ≡ not (odd x)
    flip zero zero hx e = absurd (omega arith)
    flip zero (suc y) hx e = refl
    flip (suc x) zero hx e = refl
    flip (suc x) (suc y) hx e = absurd (omega arith)
has-not (suc k) m (suc p) h l =
    has-suc ((2 ^ suc k - 1) - m) p
    ∙ ap (λ (x : ℕ). has x p) half
    ∙ has-not k (m / 2) p (omega arith) (le_of_suc-le-suc l)
    ∙ ap not (sym (has-suc m p))
  where
    half : ((2 ^ suc k - 1) - m) / 2 ≡ (2 ^ k - 1) - m / 2
    half = omega arith

pub lt_or_le : (p k : ℕ) → (p < k) ⊎ (k ≤ p)
lt_or_le p zero = inr Prim.Native.Nat.zero-le
lt_or_le zero (suc k) = inl (zero-lt-suc k)
lt_or_le (suc p) (suc k) = ⊎_elim (λ h. inl (Prim.Native.Nat.suc-le-suc h)) (λ h. inr (Prim.Native.Nat.suc-le-suc h)) (lt_or_le p k)

-- a & !b on k digits
pub and-not : (k a b : ℕ) → a < 2 ^ k → b < 2 ^ k → bit_and a ((2 ^ k - 1) - b) ≡ minus a b
and-not k a b ha hb = ext _ _ (λ p. has-and a ((2 ^ k - 1) - b) p ∙ pick p (lt_or_le p k) ∙ sym (has-minus a b p))
  where
    pick : (p : ℕ) → (p < k) ⊎ (k ≤ p) → (has a p && has ((2 ^ k - 1) - b) p) ≡ (has a p && not (has b p))
    pick p (inl h) = ap (λ (y : Bool). has a p && y) (has-not k b p hb h)
    pick p (inr l) = ap (λ (x : Bool). x && has ((2 ^ k - 1) - b) p) (has_high k a p ha l) ∙ ap (λ (x : Bool). x && not (has b p)) (sym (has_high k a p ha l))

-- the test `m & (1 << p) != 0`
pub has_test : (m p : ℕ) → not (eqb (bit_and m (2 ^ p)) 0) ≡ has m p
has_test m p = pick (has m p) refl
  where
    at : (q : ℕ) → has (bit_and m (2 ^ p)) q ≡ (has m q && eqb p q)
    at q = has-and m (2 ^ p) q ∙ ap (λ (y : Bool). has m q && y) (has_pow p q)

    pick : (b : Bool) → has m p ≡ b → not (eqb (bit_and m (2 ^ p)) 0) ≡ has m p
    pick true e =
        ap not (ne_eqb (bit_and m (2 ^ p)) 0 (λ z. no_member (bit_and m (2 ^ p)) p z (at p ∙ ap₂ ◌&&◌ e (eq-eqb p p refl)))) ∙ sym e
    pick false e =
        ap not (eq-eqb (bit_and m (2 ^ p)) 0 (empty (bit_and m (2 ^ p)) (λ q h.
        let s = and_parts (has m q) (eqb p q) (sym (at q) ∙ h) in
        true≢false (sym s.0 ∙ ap (has m) (sym (eqb-true p q s.1)) ∙ e)))) ∙ sym e

-- ---- how many members: the digits among the 64 lowest, which antt computes; `u64::count_ones` is `ones`, which it does not

ones_in_lem : (k m : ℕ) → m < 2 ^ k → ones m ≡ ones_in k m
unfolding ones_in ones
ones_in_lem zero m h = ap ones (lib.Arith.lt-one h)
ones_in_lem (suc k) m h = ones_step m ∙ ap (λ (x : ℕ). m % 2 + x) (ones_in_lem k (m / 2) (omega arith))

pub ones-size : (m : ℕ) → m < 2 ^ 64 → ones m ≡ size m
unfolding size
ones-size m h = ones_in_lem 64 m h

digit_le : (a b : ℕ) → Within a b → a % 2 ≤ b % 2
digit_le a b h = pick (a % 2) (b % 2) refl refl
  where
    pick : (x y : ℕ) → a % 2 ≡ x → b % 2 ≡ y → a % 2 ≤ b % 2
    pick zero y e k = omega arith
    pick (suc x) zero e k = absurd (true≢false (sym (h.at 0 (has-zero a ∙ ap odd e)) ∙ has-zero b ∙ ap odd k))
    pick (suc x) (suc y) e k = omega arith

half_within : (a b : ℕ) → Within a b → Within (a / 2) (b / 2)
half_within a b h = record { at = λ p e. sym (has-suc b p) ∙ h.at (suc p) (has-suc a p ∙ e) }

in_le : (k a b : ℕ) → Within a b → ones_in k a ≤ ones_in k b
unfolding ones_in
in_le zero a b h = Prim.Native.Nat.zero-le
in_le (suc k) a b h = native.Mathlib.Nat.add-le-add (digit_le a b h) (in_le k (a / 2) (b / 2) (half_within a b h))

in_eq : (k a b : ℕ) → a < 2 ^ k → b < 2 ^ k → Within a b → ones_in k b ≤ ones_in k a → a ≡ b
unfolding ones_in
in_eq zero a b ha hb h l = omega arith
in_eq (suc k) a b ha hb h l =
    let d = digit_le a b h in
    let r = in_le k (a / 2) (b / 2) (half_within a b h) in
    halves a b (in_eq k (a / 2) (b / 2) (omega arith) (omega arith) (half_within a b h) (omega arith)) (omega arith)

in_bound : (k m : ℕ) → ones_in k m ≤ k
unfolding ones_in
in_bound zero m = Prim.Native.Nat.zero-le
in_bound (suc k) m = let h = in_bound k (m / 2) in omega arith

pub size_le : (m : ℕ) → size m ≤ 64
unfolding size
size_le m = in_bound 64 m

pub size_mono : (a b : ℕ) → Within a b → size a ≤ size b
unfolding size
size_mono a b h = in_le 64 a b h

-- a set that grows has more members
pub size_grows : (a b : ℕ) → a < 2 ^ 64 → b < 2 ^ 64 → Within a b → (b ≡ a → ⊥) → size a < size b
unfolding size
size_grows a b ha hb h n =
    ⊎_elim (λ l. l) (λ l. absurd (n (sym (in_eq 64 a b ha hb h l)))) (lt_or_le (ones_in 64 a) (ones_in 64 b))

-- ---- the least member: `u64::trailing_zeros` is `count_trailing_zeros 64`

under_pick : (k m : ℕ) → (d : ℕ) → m % 2 ≡ d → under d (count_trailing_zeros k (m / 2)) ≡ under (m % 2) (count_trailing_zeros k (m / 2))
under_pick k m d e = ap (λ (x : ℕ). under x (count_trailing_zeros k (m / 2))) (sym e)

pub trailing_member : (k m : ℕ) → m < 2 ^ k → (m ≡ 0 → ⊥) → has m (count_trailing_zeros k m) ≡ true
unfolding count_trailing_zeros
trailing_member zero m h n = absurd (n (lib.Arith.lt-one h))
trailing_member (suc k) m h n = pick (m % 2) refl (λ z. trailing_member k (m / 2) (omega arith) z)
  where
    pick : (d : ℕ) → m % 2 ≡ d → ((m / 2 ≡ 0 → ⊥) → has (m / 2) (count_trailing_zeros k (m / 2)) ≡ true) → has m (under (m % 2) (count_trailing_zeros k (m / 2))) ≡ true
    pick zero e ih = ap (has m) (sym (under_pick k m zero e)) ∙ has-suc m (count_trailing_zeros k (m / 2)) ∙ ih (λ z. n (omega arith))
    pick (suc d) e ih = ap (has m) (sym (under_pick k m (suc d) e)) ∙ has-zero m ∙ ap odd e

pub trailing_least : (k m q : ℕ) → q < count_trailing_zeros k m → has m q ≡ false
unfolding count_trailing_zeros
trailing_least zero m q h = absurd (not-suc-le-zero h)
trailing_least (suc k) m q h = pick q (m % 2) refl (subst (λ (x : ℕ). q < x) (sym (under_pick k m (m % 2) refl)) h) (λ r l. trailing_least k (m / 2) r l)
  where
    pick : (q d : ℕ) → m % 2 ≡ d → q < under (m % 2) (count_trailing_zeros k (m / 2)) → ((r : ℕ) → r < count_trailing_zeros k (m / 2) → has (m / 2) r ≡ false) → has m q ≡ false
    pick q (suc d) e l ih = absurd (not-suc-le-zero (subst (λ (x : ℕ). q < x) (sym (under_pick k m (suc d) e)) l))
    pick zero zero e l ih = has-zero m ∙ ap odd e
    pick (suc q) zero e l ih = has-suc m q ∙ ih q (le_of_suc-le-suc (subst (λ (x : ℕ). suc q < x) (sym (under_pick k m zero e)) l))

pub trailing_lt : (k m : ℕ) → m < 2 ^ k → (m ≡ 0 → ⊥) → count_trailing_zeros k m < k
trailing_lt k m h n =
    ⊎_elim (λ l. l) (λ l. absurd (true≢false (sym (trailing_member k m h n) ∙ has_high k m (count_trailing_zeros k m) h l))) (lt_or_le (count_trailing_zeros k m) k)

-- ---- what the code's shifts are

-- 1 << p
pub shl_one : (p : ℕ) → p < 64 → (1 * 2 ^ p) % 2 ^ 64 ≡ 2 ^ p
shl_one p h = ap (λ (x : ℕ). x % 2 ^ 64) (native.Mathlib.Nat.one-mul (2 ^ p)) ∙ native.Mathlib.Nat.mod-eq_of_lt (lib.Pow.pow-lt h)

-- (m >> p) & 1 == 1
pub has_shift : (m p : ℕ) → eqb (bit_and (m / 2 ^ p) 1) 1 ≡ has m p
unfolding has
has_shift m p = ap (λ (x : ℕ). eqb x 1) (lib.Bits.and_mask (m / 2 ^ p) 1) ∙ pick (m / 2 ^ p % 2) (mod-lt (m / 2 ^ p) two_pos)
  where
    pick : (d : ℕ) → d < 2 → eqb d 1 ≡ odd d
    pick zero h = refl
    pick (suc zero) h = refl
    pick (suc (suc d)) h = absurd (not-suc-le-zero (le_of_suc-le-suc (le_of_suc-le-suc h)))

-- the tests `m & (1 << p) == 0` and `!= 0`, as facts
pub bit_clear : (m p : ℕ) → p < 64 → bit_and m ((1 * 2 ^ p) % 2 ^ 64) ≡ 0 → has m p ≡ false
bit_clear m p h e = sym (has_test m p) ∙ ap not (eq-eqb (bit_and m (2 ^ p)) 0 (ap (bit_and m) (sym (shl_one p h)) ∙ e))

pub bit-set : (m p : ℕ) → p < 64 → (bit_and m ((1 * 2 ^ p) % 2 ^ 64) ≡ 0 → ⊥) → has m p ≡ true
bit-set m p h n = sym (has_test m p) ∙ ap not (ne_eqb (bit_and m (2 ^ p)) 0 (λ e. n (ap (bit_and m) (shl_one p h) ∙ e)))

-- the tests `(m >> p) & 1 == 1` and `!= 1`, as facts
pub shift_set : (m p : ℕ) → bit_and (m / 2 ^ p) 1 ≡ 1 → has m p ≡ true
shift_set m p e = sym (has_shift m p) ∙ eq-eqb (bit_and (m / 2 ^ p) 1) 1 e

pub shift_clear : (m p : ℕ) → (bit_and (m / 2 ^ p) 1 ≡ 1 → ⊥) → has m p ≡ false
shift_clear m p n = sym (has_shift m p) ∙ ne_eqb (bit_and (m / 2 ^ p) 1) 1 n
