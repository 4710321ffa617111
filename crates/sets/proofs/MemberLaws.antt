-- The list of a set's persons: how long it is, and that it holds just them.
use mathlib.Core.Path.{◌≡◌, refl, sym, ap, ap₂, ◌∙◌, subst}
use mathlib.Core.Bool.{Bool, true, ◌&&◌, true≢false}
use mathlib.Core.List.{List, [], ◌∷◌}
use Prim.Native.Nat.{ℕ, zero, suc, ◌+◌, ◌/◌, ◌%◌, ◌<◌}
use native.Mathlib.Omega.{arith}
use native.Mathlib.Nat.{not-suc-le-zero, le_of_suc-le-suc, mod-lt, zero-lt-suc}
use lib.ListN.{length, get_or}
use lib.Count.{ones_in}
use Rattle.sets.specs.paper.Sets.{odd, has, size, when, members, members_from, all_of}
use Rattle.sets.proofs.SetLaws.{has-zero, has-suc, and_parts}

-- a test of the persons of a set
from_same : (k p m : ℕ) (f g : ℕ → Bool) → ((j : ℕ) → has m j ≡ true → f (p + j) ≡ g (p + j)) → all_of f (members_from k p m) ≡ all_of g (members_from k p m)
unfolding members_from all_of
from_same zero p m f g h = refl
from_same (suc k) p m f g h =
    go (m % 2) refl
    (from_same k (suc p) (m / 2) f g (λ j e. subst (λ (x : ℕ). f x ≡ g x) (let z : p + suc j ≡ suc p + j = omega arith in z) (h (suc j) (has-suc m j ∙ e))))
  where
    rest : List ℕ
    rest = members_from k (suc p) (m / 2)

    go : (d : ℕ) → m % 2 ≡ d → all_of f rest ≡ all_of g rest → all_of f (when (m % 2) p rest) ≡ all_of g (when (m % 2) p rest)
    go zero e r = subst (λ (x : ℕ). all_of f (when x p rest) ≡ all_of g (when x p rest)) (sym e) r
    go (suc d) e r =
        subst (λ (x : ℕ). all_of f (when x p rest) ≡ all_of g (when x p rest)) (sym e)
        (ap₂ ◌&&◌ (subst (λ (x : ℕ). f x ≡ g x) (let z : p + 0 ≡ p = omega arith in z) (h 0 (has-zero m ∙ ap odd e))) r)

pub members-same : (m : ℕ) (f g : ℕ → Bool) → ((q : ℕ) → has m q ≡ true → f q ≡ g q) → all_of f (members m) ≡ all_of g (members m)
unfolding members
members-same m f g h = from_same 64 0 m f g (λ j e. subst (λ (x : ℕ). f x ≡ g x) (let z : j ≡ 0 + j = omega arith in z) (h j e))

all_true : (xs : List ℕ) → all_of (λ (q : ℕ). true) xs ≡ true
unfolding all_of
all_true [] = refl
all_true (x ∷ xs) = all_true xs

all_entry : (f : ℕ → Bool) (xs : List ℕ) (d i : ℕ) → all_of f xs ≡ true → i < length xs → f (get_or xs i d) ≡ true
unfolding all_of
all_entry f [] d i h l = absurd (not-suc-le-zero l)
all_entry f (x ∷ xs) d zero h l = (and_parts (f x) (all_of f xs) h).0
all_entry f (x ∷ xs) d (suc i) h l = all_entry f xs d i (and_parts (f x) (all_of f xs) h).1 (le_of_suc-le-suc l)

-- each of the list is of the set
pub member_at : (m d i : ℕ) → i < length (members m) → has m (get_or (members m) i d) ≡ true
member_at m d i l = all_entry (has m) (members m) d i (members-same m (has m) (λ q. true) (λ q e. e) ∙ all_true (members m)) l

-- there are as many as the set has
from_length : (k p m : ℕ) → length (members_from k p m) ≡ ones_in k m
unfolding members_from ones_in
from_length zero p m = refl
from_length (suc k) p m = go (m % 2) (mod-lt m (zero-lt-suc 1)) (from_length k (suc p) (m / 2))
  where
    go : (d : ℕ) → d < 2 → length (members_from k (suc p) (m / 2)) ≡ ones_in k (m / 2) → length (when d p (members_from k (suc p) (m / 2))) ≡ d + ones_in k (m / 2)
    go zero h e = e ∙ omega arith
    go (suc zero) h e = ap suc e ∙ omega arith
    go (suc (suc d)) h e = absurd (not-suc-le-zero (le_of_suc-le-suc (le_of_suc-le-suc h)))

pub members-length : (m : ℕ) → length (members m) ≡ size m
unfolding members size
members-length m = from_length 64 0 m

-- and each of the set, of the sixty-four, stands in the list
at_place : (p d : ℕ) (xs : List ℕ) → Type 0
at_place p d xs = (i : ℕ) × (i < length xs) × (get_or xs i d ≡ p)

from_place : (k p m j d : ℕ) → j < k → has m j ≡ true → at_place (p + j) d (members_from k p m)
unfolding members_from at_place
from_place zero p m j d l h = absurd (not-suc-le-zero l)
from_place (suc k) p m zero d l h = go (m % 2) (sym (has-zero m) ∙ h)
  where
    go : (x : ℕ) → odd x ≡ true → (i : ℕ) × (i < length (when x p (members_from k (suc p) (m / 2)))) × (get_or (when x p (members_from k (suc p) (m / 2))) i d ≡ p + 0)
    go zero e = absurd (true≢false (sym e))
    go (suc x) e = (0, zero-lt-suc _, omega arith)
from_place (suc k) p m (suc j) d l h = go (m % 2) (from_place k (suc p) (m / 2) j d (le_of_suc-le-suc l) (sym (has-suc m j) ∙ h))
  where
    rest : List ℕ
    rest = members_from k (suc p) (m / 2)

    go : (x : ℕ) → (i : ℕ) × (i < length rest) × (get_or rest i d ≡ suc p + j) → (i : ℕ) × (i < length (when x p rest)) × (get_or (when x p rest) i d ≡ p + suc j)
    go zero r = (r.0, r.1, r.2 ∙ omega arith)
    go (suc x) r = (suc r.0, Prim.Native.Nat.suc-le-suc r.1, r.2 ∙ omega arith)

pub member_place : (m p d : ℕ) → p < 64 → has m p ≡ true → (i : ℕ) × (i < size m) × (get_or (members m) i d ≡ p)
unfolding members at_place
member_place m p d l h =
    let r = from_place 64 0 m p d l h in
    (r.0, subst (λ (x : ℕ). r.0 < x) (members-length m) r.1, r.2 ∙ omega arith)

-- ---- what holds of each person of the list holds of each member

later : (f : ℕ → Bool) (d p : ℕ) (r : List ℕ) → all_of f (when d p r) ≡ true → all_of f r ≡ true
unfolding all_of
later f zero p r e = e
later f (suc d) p r e = (and_parts (f p) (all_of f r) e).1

all_from : (f : ℕ → Bool) (k p m q : ℕ) → all_of f (members_from k p m) ≡ true → q < k → has m q ≡ true → f (p + q) ≡ true
unfolding members_from all_of
all_from f zero p m q e l h = absurd (not-suc-le-zero l)
all_from f (suc k) p m zero e l h = pick (m % 2) refl e
  where
    pick : (d : ℕ) → m % 2 ≡ d → all_of f (when d p (members_from k (suc p) (m / 2))) ≡ true → f (p + 0) ≡ true
    pick zero z t = absurd (true≢false (sym h ∙ has-zero m ∙ ap odd z))
    pick (suc d) z t = ap f (omega arith) ∙ (and_parts (f p) (all_of f (members_from k (suc p) (m / 2))) t).0
all_from f (suc k) p m (suc q) e l h =
    ap f (omega arith)
    ∙ all_from f k (suc p) (m / 2) q (later f (m % 2) p (members_from k (suc p) (m / 2)) e) (le_of_suc-le-suc l) (sym (has-suc m q) ∙ h)

pub all_members : (f : ℕ → Bool) (m q : ℕ) → all_of f (members m) ≡ true → q < 64 → has m q ≡ true → f q ≡ true
unfolding members
all_members f m q e l h = ap f (omega arith) ∙ all_from f 64 0 m q e l h
