-- The numbers of a set one by one, lowest first, and what a turn of a loop over them finds.
use mathlib.Core.Path.{◌≡◌, refl, sym, ap, ap₂, ◌∙◌}
use mathlib.Core.Bool.{Bool, true, false, not, ◌&&◌, ◌||◌, and_self, and-true, and-false, or-true, or-false, false≢true}
use mathlib.Core.Logic.{◌⊎◌, inl, inr, ⊎_elim}
use mathlib.Core.List.{List, [], ◌∷◌}
use Prim.Native.Nat.{ℕ, zero, suc, ◌+◌, ◌-◌, ◌*◌, ◌/◌, ◌%◌, ◌^◌, ◌<◌, min}
use native.Mathlib.Nat.{mod-lt, zero-lt-suc, zero-add, add-zero, add-suc, suc-add, min-zero, zero-min, lt_trans}
use native.Mathlib.Omega.{arith}
use lib.Dec.{eqb, eqb-zero-suc, eqb-suc-suc}
use lib.Arith.{lt-one, digits_div, digits_mod}
use lib.Bits.{bit_and, and_step, and_le_r}
use lib.Count.{count_trailing_zeros, under}
use borrow.Author.Tests.{eqb-true, eq-eqb, ne_eqb}
use Rattle.sets.specs.paper.Sets.{odd, has, one, union, minus, disjoint, meet, meets, lowest, when, members, members_from, any_of, union_of}
use Rattle.sets.proofs.SetLaws.{has-zero, has-suc, has-none, has-and, has-minus, has_one, has-union, ext, of_union, in_union_l, in_union_r, or_parts}

-- ---- m & (m - 1): all but the lowest

pred_has : (k m q : ℕ) → m < 2 ^ k → (m ≡ 0 → ⊥) → (has m q && has (m - 1) q) ≡ (has m q && not (eqb (count_trailing_zeros k m) q))
unfolding count_trailing_zeros
pred_has zero m q h n = absurd (n (lt-one h))
pred_has (suc k) m q h n = pick q (m % 2) refl (λ r z. pred_has k (m / 2) r (omega arith) z)
  where
    t : ℕ
    t = count_trailing_zeros k (m / 2)

    pick : (q d : ℕ) → m % 2 ≡ d → ((r : ℕ) → (m / 2 ≡ 0 → ⊥) → (has (m / 2) r && has (m / 2 - 1) r) ≡ (has (m / 2) r && not (eqb t r)))
        → (has m q && has (m - 1) q) ≡ (has m q && not (eqb (under (m % 2) t) q))
    pick zero zero e ih = ap (λ (x : Bool). x && has (m - 1) 0) (has-zero m ∙ ap odd e) ∙ sym (ap (λ (x : Bool). x && not (eqb (under (m % 2) t) 0)) (has-zero m ∙ ap odd e))
    pick zero (suc d) e ih =
        let low : (m - 1) % 2 ≡ 0 = omega arith in
        ap₂ ◌&&◌ (has-zero m ∙ ap odd e) (has-zero (m - 1) ∙ ap odd low)
        ∙ sym (ap₂ ◌&&◌ (has-zero m ∙ ap odd e) (ap (λ (x : ℕ). not (eqb (under x t) 0)) e))
    pick (suc q) zero e ih =
        let half : (m - 1) / 2 ≡ m / 2 - 1 = omega arith in
        ap₂ ◌&&◌ (has-suc m q) (has-suc (m - 1) q ∙ ap (λ (x : ℕ). has x q) half)
        ∙ ih q (λ z. n (omega arith))
        ∙ sym (ap₂ ◌&&◌ (has-suc m q) (ap (λ (x : ℕ). not (eqb (under x t) (suc q))) e ∙ ap not (eqb-suc-suc t q)))
    pick (suc q) (suc d) e ih =
        let half : (m - 1) / 2 ≡ m / 2 = omega arith in
        ap₂ ◌&&◌ (has-suc m q) (has-suc (m - 1) q ∙ ap (λ (x : ℕ). has x q) half) ∙ and_self (has (m / 2) q)
        ∙ sym (ap₂ ◌&&◌ (has-suc m q) (ap (λ (x : ℕ). not (eqb (under x t) (suc q))) e ∙ ap not (eqb-zero-suc q)) ∙ and-true (has (m / 2) q))

pub and_pred : (m : ℕ) → m < 2 ^ 64 → (m ≡ 0 → ⊥) → bit_and m (m - 1) ≡ minus m (one (lowest m))
unfolding lowest
and_pred m h n =
    ext (bit_and m (m - 1)) (minus m (one (lowest m))) (λ q.
    has-and m (m - 1) q ∙ pred_has 64 m q h n ∙ sym (has-minus m (one (lowest m)) q ∙ ap (λ (x : Bool). has m q && not x) (has_one (lowest m) q)))

pub and-less : (m : ℕ) → (m ≡ 0 → ⊥) → bit_and m (m - 1) < m
and-less m n = omega (arith, and_le_r m (m - 1), n)

drop-odd : (m : ℕ) → m % 2 ≡ 1 → bit_and m (m - 1) ≡ (m / 2) * 2 + 0
drop-odd m e =
    let half : (m - 1) / 2 ≡ m / 2 = omega arith in
    let low : (m - 1) % 2 ≡ 0 = omega arith in
    and_step m (m - 1)
    ∙ ap₂ (λ (x y : ℕ). bit_and (m / 2) x * 2 + min (m % 2) y) half low
    ∙ ap₂ (λ (x y : ℕ). x * 2 + y) (lib.Bits.and_self (m / 2)) (min-zero (m % 2))

drop_even : (m : ℕ) → m % 2 ≡ 0 → (m ≡ 0 → ⊥) → bit_and m (m - 1) ≡ bit_and (m / 2) (m / 2 - 1) * 2 + 0
drop_even m e n =
    let half : (m - 1) / 2 ≡ m / 2 - 1 = omega arith in
    and_step m (m - 1)
    ∙ ap₂ (λ (x y : ℕ). bit_and (m / 2) x * 2 + min y ((m - 1) % 2)) half e
    ∙ ap (λ (y : ℕ). bit_and (m / 2) (m / 2 - 1) * 2 + y) (zero-min ((m - 1) % 2))

first_rest : (k p m : ℕ) → m < 2 ^ k → (m ≡ 0 → ⊥) → members_from k p m ≡ (p + count_trailing_zeros k m) ∷ members_from k p (bit_and m (m - 1))
unfolding members_from count_trailing_zeros
first_rest zero p m h n = absurd (n (lt-one h))
first_rest (suc k) p m h n = pick (m % 2) refl (mod-lt m (zero-lt-suc 1)) (λ z. first_rest k (suc p) (m / 2) (omega arith) z)
  where
    rest : ℕ → List ℕ
    rest x = when (x % 2) p (members_from k (suc p) (x / 2))

    pick : (d : ℕ) → m % 2 ≡ d → m % 2 < 2
        → ((m / 2 ≡ 0 → ⊥) → members_from k (suc p) (m / 2) ≡ (suc p + count_trailing_zeros k (m / 2)) ∷ members_from k (suc p) (bit_and (m / 2) (m / 2 - 1)))
        → rest m ≡ (p + under (m % 2) (count_trailing_zeros k (m / 2))) ∷ rest (bit_and m (m - 1))
    pick zero e l ih =
        let c = bit_and (m / 2) (m / 2 - 1) in
        let eq = drop_even m e n in
        ap (λ (d : ℕ). when d p (members_from k (suc p) (m / 2))) e
        ∙ ih (λ z. n (omega arith))
        ∙ ap (λ (x : ℕ). x ∷ members_from k (suc p) c) (suc-add p (count_trailing_zeros k (m / 2)) ∙ sym (add-suc p (count_trailing_zeros k (m / 2))))
        ∙ sym (ap₂ (λ (d x : ℕ). (p + under d (count_trailing_zeros k (m / 2))) ∷ rest x) e eq
        ∙ ap₂ (λ (d x : ℕ). (p + suc (count_trailing_zeros k (m / 2))) ∷ when d p (members_from k (suc p) x)) (digits_mod c (zero-lt-suc 1)) (digits_div c (zero-lt-suc 1)))
    pick (suc d) e l ih =
        let eq = drop-odd m (omega arith) in
        ap (λ (d : ℕ). when d p (members_from k (suc p) (m / 2))) e
        ∙ ap (λ (x : ℕ). x ∷ members_from k (suc p) (m / 2)) (sym (add-zero p))
        ∙ sym (ap₂ (λ (d x : ℕ). (p + under d (count_trailing_zeros k (m / 2))) ∷ rest x) e eq
        ∙ ap₂ (λ (d x : ℕ). (p + 0) ∷ when d p (members_from k (suc p) x)) (digits_mod (m / 2) (zero-lt-suc 1)) (digits_div (m / 2) (zero-lt-suc 1)))

-- A LOOP'S TURN: the members are the lowest and those of `m & (m - 1)`
pub members-next : (m : ℕ) → m < 2 ^ 64 → (m ≡ 0 → ⊥) → members m ≡ lowest m ∷ members (bit_and m (m - 1))
unfolding members lowest
members-next m h n = first_rest 64 0 m h n ∙ ap (λ (x : ℕ). x ∷ members_from 64 0 (bit_and m (m - 1))) (zero-add (count_trailing_zeros 64 m))

none-listed : members 0 ≡ []
unfolding members members_from
none-listed = refl

pub members-none : (m : ℕ) → m ≡ 0 → members m ≡ []
members-none m e = ap members e ∙ none-listed

-- ---- in the set, in the list

-- nobody below p is listed from p on
from_below : (k p m q : ℕ) → q < p → any_of (λ (x : ℕ). eqb x q) (members_from k p m) ≡ false
unfolding members_from any_of
from_below zero p m q l = refl
from_below (suc k) p m q l = go (m % 2) (from_below k (suc p) (m / 2) q (omega arith))
  where
    go : (d : ℕ) → any_of (λ (x : ℕ). eqb x q) (members_from k (suc p) (m / 2)) ≡ false
        → any_of (λ (x : ℕ). eqb x q) (when d p (members_from k (suc p) (m / 2))) ≡ false
    go zero e = e
    go (suc d) e = ap₂ ◌||◌ (ne_eqb p q (λ z. omega arith)) e

from_has : (k p m q : ℕ) → m < 2 ^ k → any_of (λ (x : ℕ). eqb x (p + q)) (members_from k p m) ≡ has m q
unfolding members_from any_of
from_has zero p m q h = sym (ap (λ (x : ℕ). has x q) (lt-one h) ∙ has-none q)
from_has (suc k) p m zero h = go (m % 2) refl
  where
    go : (d : ℕ) → m % 2 ≡ d → any_of (λ (x : ℕ). eqb x (p + 0)) (when (m % 2) p (members_from k (suc p) (m / 2))) ≡ has m 0
    go zero e =
        ap (λ (d : ℕ). any_of (λ (x : ℕ). eqb x (p + 0)) (when d p (members_from k (suc p) (m / 2)))) e
        ∙ from_below k (suc p) (m / 2) (p + 0) (omega arith) ∙ sym (has-zero m ∙ ap odd e)
    go (suc d) e =
        ap (λ (d : ℕ). any_of (λ (x : ℕ). eqb x (p + 0)) (when d p (members_from k (suc p) (m / 2)))) e
        ∙ ap (λ (b : Bool). b || any_of (λ (x : ℕ). eqb x (p + 0)) (members_from k (suc p) (m / 2))) (eq-eqb p (p + 0) (omega arith)) ∙ sym (has-zero m ∙ ap odd e)
from_has (suc k) p m (suc q) h =
    go (m % 2)
    ∙ ap (λ (y : ℕ). any_of (λ (x : ℕ). eqb x y) (members_from k (suc p) (m / 2))) (let z : p + suc q ≡ suc p + q = omega arith in z)
    ∙ from_has k (suc p) (m / 2) q (omega arith) ∙ sym (has-suc m q)
  where
    go : (d : ℕ) → any_of (λ (x : ℕ). eqb x (p + suc q)) (when d p (members_from k (suc p) (m / 2))) ≡ any_of (λ (x : ℕ). eqb x (p + suc q)) (members_from k (suc p) (m / 2))
    go zero = refl
    go (suc d) = ap (λ (b : Bool). b || any_of (λ (x : ℕ). eqb x (p + suc q)) (members_from k (suc p) (m / 2))) (ne_eqb p (p + suc q) (λ z. omega arith))

-- i is of the set where it is listed
pub has-members : (m i : ℕ) → m < 2 ^ 64 → has m i ≡ any_of (λ (x : ℕ). eqb x i) (members m)
unfolding members
has-members m i h = sym (ap (λ (y : ℕ). any_of (λ (x : ℕ). eqb x y) (members_from 64 0 m)) (sym (zero-add i)) ∙ from_has 64 0 m i h)

-- of the set: its lowest, or of the rest
pub member_has : (m r : ℕ) → m < 2 ^ 64 → r < m → members m ≡ lowest m ∷ members r → (i : ℕ) → has m i ≡ (eqb (lowest m) i || has r i)
unfolding any_of
member_has m r h l e i =
    has-members m i h ∙ ap (any_of (λ (x : ℕ). eqb x i)) e ∙ ap (λ (b : Bool). eqb (lowest m) i || b) (sym (has-members r i (lt_trans l h)))

-- the same for a loop that is at t
pub turn_has : (m r t : ℕ) → m < 2 ^ 64 → (t ≡ lowest m) × (t < 64) → (members m ≡ lowest m ∷ members r) × (r < m) → (i : ℕ) → has m i ≡ (eqb t i || has r i)
turn_has m r t h a b i = member_has m r h b.1 b.0 i ∙ ap (λ (x : ℕ). eqb x i || has r i) (sym a.0)

-- ---- unions over a set

list_find : (f : ℕ → ℕ) (xs : List ℕ) (q : ℕ) → has (union_of f xs) q ≡ true → (i : ℕ) × (any_of (λ (x : ℕ). eqb x i) xs ≡ true) × (has (f i) q ≡ true)
unfolding union_of any_of
list_find f [] q e = absurd (false≢true (sym (has-none q) ∙ e))
list_find f (x ∷ xs) q e = pick (of_union (f x) (union_of f xs) q e) (list_find f xs q)
  where
    pick : (has (f x) q ≡ true) ⊎ (has (union_of f xs) q ≡ true) → (has (union_of f xs) q ≡ true → (i : ℕ) × (any_of (λ (y : ℕ). eqb y i) xs ≡ true) × (has (f i) q ≡ true))
        → (i : ℕ) × ((eqb x i || any_of (λ (y : ℕ). eqb y i) xs) ≡ true) × (has (f i) q ≡ true)
    pick (inl h) ih = (x, ap (λ (b : Bool). b || any_of (λ (y : ℕ). eqb y x) xs) (eq-eqb x x refl), h)
    pick (inr h) ih =
        let r = ih h in
        (r.0, ap (λ (b : Bool). eqb x r.0 || b) r.1 ∙ or-true (eqb x r.0), r.2)

list_in : (f : ℕ → ℕ) (xs : List ℕ) (i q : ℕ) → any_of (λ (x : ℕ). eqb x i) xs ≡ true → has (f i) q ≡ true → has (union_of f xs) q ≡ true
unfolding union_of any_of
list_in f [] i q e h = absurd (false≢true e)
list_in f (x ∷ xs) i q e h =
    ⊎_elim (λ z. (in_union_l (f x) (union_of f xs)).at q (ap (λ (y : ℕ). has (f y) q) (eqb-true x i z) ∙ h))
    (λ z. (in_union_r (f x) (union_of f xs)).at q (list_in f xs i q z h)) (or_parts (eqb x i) (any_of (λ (y : ℕ). eqb y i) xs) e)

-- who is of the union is of what some number of the set has
pub union-has : (f : ℕ → ℕ) (m q : ℕ) → m < 2 ^ 64 → has (union_of f (members m)) q ≡ true → (i : ℕ) × (has m i ≡ true) × (has (f i) q ≡ true)
union-has f m q h e =
    let r = list_find f (members m) q e in
    (r.0, has-members m r.0 h ∙ r.1, r.2)

pub has-union_of : (f : ℕ → ℕ) (m i q : ℕ) → m < 2 ^ 64 → has m i ≡ true → has (f i) q ≡ true → has (union_of f (members m)) q ≡ true
has-union_of f m i q h e k = list_in f (members m) i q (sym (has-members m i h) ∙ e) k

-- ---- the tests of a turn that is at t and leaves r

-- the numbers that pass a test: t does, or does not
pub found_in : (f : ℕ → Bool) (m r t found : ℕ) → ((i : ℕ) → has m i ≡ (eqb t i || has r i)) → f t ≡ true
    → (i : ℕ) → (has (union found (one t)) i || (has r i && f i)) ≡ (has found i || (has m i && f i))
found_in f m r t found h k i =
    ap (λ (b : Bool). b || (has r i && f i)) (has-union found (one t) i ∙ ap (λ (b : Bool). has found i || b) (has_one t i)) ∙ pick (eqb t i) refl
  where
    all : (x y : Bool) → ((x || true) || y) ≡ (x || true)
    all true y = refl
    all false y = refl

    pick : (b : Bool) → eqb t i ≡ b → ((has found i || eqb t i) || (has r i && f i)) ≡ (has found i || (has m i && f i))
    pick true e =
        ap (λ (b : Bool). (has found i || b) || (has r i && f i)) e ∙ all (has found i) (has r i && f i)
        ∙ sym (ap₂ (λ (x y : Bool). has found i || (x && y)) (h i ∙ ap (λ (b : Bool). b || has r i) e) (ap f (sym (eqb-true t i e)) ∙ k))
    pick false e =
        ap (λ (b : Bool). (has found i || b) || (has r i && f i)) e ∙ ap (λ (b : Bool). b || (has r i && f i)) (or-false (has found i))
        ∙ sym (ap (λ (b : Bool). has found i || (b && f i)) (h i ∙ ap (λ (b : Bool). b || has r i) e))

pub found_out : (f : ℕ → Bool) (m r t found : ℕ) → ((i : ℕ) → has m i ≡ (eqb t i || has r i)) → f t ≡ false
    → (i : ℕ) → (has found i || (has r i && f i)) ≡ (has found i || (has m i && f i))
found_out f m r t found h k i = ap (λ (b : Bool). has found i || b) (pick (eqb t i) refl)
  where
    pick : (b : Bool) → eqb t i ≡ b → (has r i && f i) ≡ (has m i && f i)
    pick true e =
        let z = ap f (sym (eqb-true t i e)) ∙ k in
        ap (λ (b : Bool). has r i && b) z ∙ and-false (has r i) ∙ sym (ap (λ (b : Bool). has m i && b) z ∙ and-false (has m i))
    pick false e = sym (ap (λ (b : Bool). b && f i) (h i ∙ ap (λ (b : Bool). b || has r i) e))

-- a & b != 0, and == 0
pub and-meets : (a b : ℕ) → (bit_and a b ≡ 0 → ⊥) → meets a b ≡ true
unfolding meets disjoint meet
and-meets a b n = ap not (ne_eqb (bit_and a b) 0 n)

pub and_apart : (a b : ℕ) → bit_and a b ≡ 0 → meets a b ≡ false
unfolding meets disjoint meet
and_apart a b e = ap not (eq-eqb (bit_and a b) 0 e)
