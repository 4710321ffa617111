-- Laws of lists that are walked by their places: tests of all, first faults, lists made from the front of an array.
use mathlib.Core.Path.{◌≡◌, refl, sym, ap, ◌∙◌, subst}
use mathlib.Core.Bool.{Bool, true, false, ◌&&◌, ◌||◌, not}
use mathlib.Core.List.{List, [], ◌∷◌, ◌++◌, map}
use Prim.Native.Nat.{ℕ, zero, suc, ◌+◌, ◌-◌, ◌≤◌, ◌<◌, min}
use native.Mathlib.Nat.{le_of_suc-le-suc, not-suc-le-zero, min-zero, zero-min, suc-min-suc}
use native.Mathlib.Numerals.{add-one}
use native.Mathlib.Omega.{arith}
use lib.ListN.{length, get_or, take, drop, length-map, length-take, drop_of_length-le, get_or-append}
use lib.Seq.{drop-cons, get_or-take, get_or-append-add}
use Rattle.sets.specs.paper.Sets.{all_of, any_of}
use Rattle.records.specs.paper.Fields.{Verdict, refused, first_fault}

-- ---- the front of an array

-- the number of things made from the first n of m
pub length_front : {A B : Type 0} (f : A → B) (xs : List A) (n m : ℕ) → length xs ≡ m → length (map f (take n xs)) ≡ min n m
length_front f xs n m e = length-map (take n xs) f ∙ length-take n xs ∙ ap (λ (k : ℕ). min n k) e

pub take_min : {A : Type 0} (n m : ℕ) (xs : List A) → length xs ≡ m → take (min n m) xs ≡ take n xs
take_min n m xs e = subst (λ (k : ℕ). take (min n k) xs ≡ take n xs) e (go n xs)
  where
    go : {A : Type 0} (n : ℕ) (xs : List A) → take (min n (length xs)) xs ≡ take n xs
    go zero xs = ap (λ (k : ℕ). take k xs) (zero-min (length xs))
    go (suc n) [] = ap (λ (k : ℕ). take k []) (min-zero (suc n))
    go (suc n) (x ∷ xs) = ap (λ (k : ℕ). take k (x ∷ xs)) (suc-min-suc n (length xs)) ∙ ap (λ l. x ∷ l) (go n xs)

-- ---- a test of all from place i on

pub all_cons : {A : Type 0} (f : A → Bool) (l : List A) (i : ℕ) (d : A) → i < length l → all_of f (drop i l) ≡ (f (get_or l i d) && all_of f (drop (i + 1) l))
unfolding all_of
all_cons f l i d h = rw (drop-cons l i d h, add-one)

pub all_end : {A : Type 0} (f : A → Bool) (l : List A) (i : ℕ) → length l ≤ i → all_of f (drop i l) ≡ true
unfolding all_of
all_end f l i h = ap (all_of f) (drop_of_length-le l h)

-- the three turns of a loop that tests all: the test holds at i, it fails at i, no place is left
pub all_goes : {A : Type 0} (f : A → Bool) (l : List A) (i : ℕ) (d : A) (R : Bool) → i < length l → f (get_or l i d) ≡ true → all_of f (drop i l) ≡ R → all_of f (drop (i + 1) l) ≡ R
all_goes f l i d R h t e = (rw t at (sym (all_cons f l i d h))) ∙ e

pub all_fails : {A : Type 0} (f : A → Bool) (l : List A) (i : ℕ) (d : A) (R : Bool) → i < length l → f (get_or l i d) ≡ false → all_of f (drop i l) ≡ R → false ≡ R
all_fails f l i d R h t e = (rw t at (sym (all_cons f l i d h))) ∙ e

pub all_ends : {A : Type 0} (f : A → Bool) (l : List A) (i : ℕ) (R : Bool) → length l ≤ i → all_of f (drop i l) ≡ R → true ≡ R
all_ends f l i R h e = sym (all_end f l i h) ∙ e

-- ---- entries

pub get_or_mapped : {A B : Type 0} (f : A → B) (l : List A) (i : ℕ) (d : A) (e : B) → i < length l → get_or (map f l) i e ≡ f (get_or l i d)
get_or_mapped f [] i d e h = absurd (not-suc-le-zero h)
get_or_mapped f (x ∷ xs) zero d e h = refl
get_or_mapped f (x ∷ xs) (suc i) d e h = get_or_mapped f xs i d e (le_of_suc-le-suc h)

-- an entry of what is made from the first n of an array
pub get_d_front : {A B : Type 0} (f : A → B) (xs : List A) (n i : ℕ) (d : A) (e : B) → i < length (map f (take n xs)) → get_or (map f (take n xs)) i e ≡ f (get_or xs i d)
get_d_front f xs n i d e h =
    let l : i < length (take n xs) = subst (λ (k : ℕ). i < k) (length-map (take n xs) f) h in
    let m = length-take n xs in
    get_or_mapped f (take n xs) i d e l ∙ ap f (get_or-take n xs i d (omega arith))

-- of two lists one after the other: in the first, and past its m entries
pub get_or_stay : {A : Type 0} (xs ys : List A) (m k : ℕ) (d : A) → m ≡ length xs → k < m → get_or (xs ++ ys) k d ≡ get_or xs k d
get_or_stay xs ys m k d e h = get_or-append xs ys d k (omega arith)

pub get_d_past : {A : Type 0} (xs ys : List A) (m k : ℕ) (d : A) → m ≡ length xs → m ≤ k → get_or (xs ++ ys) k d ≡ get_or ys (k - m) d
get_d_past xs ys m k d e h =
    let s : k ≡ length xs + (k - m) = omega arith in ap (λ (i : ℕ). get_or (xs ++ ys) i d) s ∙ get_or-append-add xs ys (k - m) d

pub all_mapped : {A B : Type 0} (f : B → Bool) (g : A → B) (l : List A) → all_of f (map g l) ≡ all_of (λ x. f (g x)) l
unfolding all_of
all_mapped f g [] = refl
all_mapped f g (x ∷ xs) = ap (λ b. f (g x) && b) (all_mapped f g xs)

-- ---- the three turns of a loop that looks for the first fault: none at i, one at i, no place is left

pub fault_goes : {A : Type 0} (at : ℕ) (fs : List ℕ) (i : ℕ) (v R : Verdict A) → i < length fs → 0 ≡ get_or fs i 0 → first_fault (at + i) (drop i fs) v ≡ R → first_fault (at + (i + 1)) (drop (i + 1) fs) v ≡ R
unfolding first_fault
fault_goes at fs i v R h t e =
    let s : at + (i + 1) ≡ at + i + 1 = omega arith in
    rw (s, add-one i) (sym (rw (drop-cons fs i 0 h, ← t)) ∙ e)

pub fault_stops : {A : Type 0} (at : ℕ) (fs : List ℕ) (i n : ℕ) (v R : Verdict A) → i < length fs → suc n ≡ get_or fs i 0 → first_fault (at + i) (drop i fs) v ≡ R → refused (suc n) (at + i) ≡ R
unfolding first_fault
fault_stops at fs i n v R h t e = sym (rw (drop-cons fs i 0 h, ← t)) ∙ e

pub fault-ends : {A : Type 0} (at : ℕ) (fs : List ℕ) (i : ℕ) (v R : Verdict A) → length fs ≤ i → first_fault (at + i) (drop i fs) v ≡ R → v ≡ R
unfolding first_fault
fault-ends at fs i v R h e = sym (rw (drop_of_length-le fs h)) ∙ e

-- some entry passes, where not all fail
pub any_not : {A : Type 0} (f : A → Bool) (l : List A) → any_of f l ≡ not (all_of (λ x. not (f x)) l)
unfolding all_of any_of
any_not f [] = refl
any_not f (x ∷ xs) = go (f x) (any_of f xs) (all_of (λ x. not (f x)) xs) (any_not f xs)
  where
    go : (b p q : Bool) → p ≡ not q → (b || p) ≡ not (not b && q)
    go true p q e = refl
    go false p q e = e

pub all_append : {A : Type 0} (f : A → Bool) (xs ys : List A) → all_of f (xs ++ ys) ≡ (all_of f xs && all_of f ys)
unfolding all_of
all_append f [] ys = refl
all_append f (x ∷ xs) ys = go (f x) (all_of f (xs ++ ys)) (all_of f xs) (all_of f ys) (all_append f xs ys)
  where
    go : (b p q r : Bool) → p ≡ (q && r) → (b && p) ≡ ((b && q) && r)
    go true p q r e = e
    go false p q r e = refl
