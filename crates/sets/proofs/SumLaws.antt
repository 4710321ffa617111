-- Laws of sums and counts over lists.
use mathlib.Core.Path.{◌≡◌, refl, sym, ap, ap₂, ◌∙◌}
use mathlib.Core.Bool.{Bool, true, false, ◌&&◌, ◌||◌, not, true≢false, false≢true}
use mathlib.Core.List.{List, [], ◌∷◌, ◌++◌, map}
use Prim.Native.Nat.{ℕ, zero, suc, ◌+◌, ◌*◌, ◌/◌, ◌%◌, ◌≤◌, zero-le}
use native.Mathlib.Nat.{suc-mul, zero-mul, one-mul}
use native.Mathlib.Omega.{arith}
use lib.ListN.{length}
use lib.Dec.{eqb}
use borrow.Author.Tests.{eqb-true}
use Rattle.sets.specs.paper.Sets.{odd, has, union, disjoint, only, when, members, members_from, numbers, any_of, sum_of, count_of, All}
use Rattle.sets.proofs.SetLaws.{has-zero, has-suc, has-union, disjoint-true}
use Rattle.sets.proofs.Every.{all_then, any_append}

-- ---- sums

pub sum_agree : {A : Type 0} (f g : A → ℕ) → ((x : A) → f x ≡ g x) → (xs : List A) → sum_of f xs ≡ sum_of g xs
unfolding sum_of
sum_agree f g same [] = refl
sum_agree f g same (x ∷ xs) = ap₂ ◌+◌ (same x) (sum_agree f g same xs)

-- the same where it is told of each entry
pub sum_where : {A : Type 0} (f g : A → ℕ) (xs : List A) → All (λ x. f x ≡ g x) xs → sum_of f xs ≡ sum_of g xs
unfolding sum_of
sum_where f g [] h = refl
sum_where f g (x ∷ xs) h = ap₂ ◌+◌ h.0 (sum_where f g xs h.1)

pub sum_le : {A : Type 0} (f g : A → ℕ) (xs : List A) → All (λ x. f x ≤ g x) xs → sum_of f xs ≤ sum_of g xs
unfolding sum_of
sum_le f g [] h = zero-le
sum_le f g (x ∷ xs) h = let r = sum_le f g xs h.1 in omega (arith, h.0, r)

-- no more than so much for each entry
pub sum_most : {A : Type 0} (f : A → ℕ) (most : ℕ) (xs : List A) → All (λ x. f x ≤ most) xs → sum_of f xs ≤ length xs * most
unfolding sum_of
sum_most f most [] h = zero-le
sum_most f most (x ∷ xs) h =
    let r = sum_most f most xs h.1 in
    let e = suc-mul (length xs) most in
    omega (arith, h.0, r, e)

pub sum_none : {A : Type 0} (xs : List A) → sum_of (λ x. 0) xs ≡ 0
unfolding sum_of
sum_none [] = refl
sum_none (x ∷ xs) = let h = sum_none xs in omega arith

pub sum_add : {A : Type 0} (f g : A → ℕ) (xs : List A) → sum_of (λ x. f x + g x) xs ≡ sum_of f xs + sum_of g xs
unfolding sum_of
sum_add f g [] = refl
sum_add f g (x ∷ xs) = let h = sum_add f g xs in omega arith

pub sum_append : {A : Type 0} (f : A → ℕ) (xs ys : List A) → sum_of f (xs ++ ys) ≡ sum_of f xs + sum_of f ys
unfolding sum_of
sum_append f [] ys = omega arith
sum_append f (x ∷ xs) ys = let h = sum_append f xs ys in omega arith

pub sum_map : {A B : Type 0} (f : B → ℕ) (g : A → B) (xs : List A) → sum_of f (map g xs) ≡ sum_of (λ x. f (g x)) xs
unfolding sum_of
sum_map f g [] = refl
sum_map f g (x ∷ xs) = ap (λ (n : ℕ). f (g x) + n) (sum_map f g xs)

-- a double sum either way
pub sum_swap : {A B : Type 0} (f : A → B → ℕ) (xs : List A) (ys : List B) → sum_of (λ x. sum_of (f x) ys) xs ≡ sum_of (λ y. sum_of (λ x. f x y) xs) ys
unfolding sum_of
sum_swap f [] ys = sym (sum_none ys)
sum_swap f (x ∷ xs) ys = ap (λ (n : ℕ). sum_of (f x) ys + n) (sum_swap f xs ys) ∙ sym (sum_add (f x) (λ y. sum_of (λ x. f x y) xs) ys)

-- those that pass a test and the others are all
pub sum_parted : {A : Type 0} (p : A → Bool) (f : A → ℕ) (xs : List A) → sum_of (λ x. only (p x) (f x)) xs + sum_of (λ x. only (not (p x)) (f x)) xs ≡ sum_of f xs
sum_parted p f xs = sym (sum_add (λ x. only (p x) (f x)) (λ x. only (not (p x)) (f x)) xs) ∙ sum_agree _ f (λ x. go (p x) (f x)) xs
  where
    go : (b : Bool) (n : ℕ) → only b n + only (not b) n ≡ n
    go true n = omega arith
    go false n = omega arith

-- what a loop has so far, with what is left: an entry more, or none left
pub sum_first : {A : Type 0} (f : A → ℕ) (m t x : ℕ) (xs ys : List A) (y : A) → xs ≡ y ∷ ys → t ≡ m + x → x ≡ f y → t + sum_of f ys ≡ m + sum_of f xs
unfolding sum_of
sum_first f m t x xs ys y e k h = let s = ap (sum_of f) e in omega (arith, s, k, h)

pub sum_end : {A : Type 0} (f : A → ℕ) (m : ℕ) (xs : List A) → xs ≡ [] → m + sum_of f xs ≡ m
unfolding sum_of
sum_end f m xs e = let s = ap (sum_of f) e in omega (arith, s)

-- ---- counts

pub count-agree : {A : Type 0} (p q : A → Bool) → ((x : A) → p x ≡ q x) → (xs : List A) → count_of p xs ≡ count_of q xs
unfolding count_of
count-agree p q same = sum_agree _ _ (λ x. ap (λ (b : Bool). only b 1) (same x))

pub count_where : {A : Type 0} (p q : A → Bool) (xs : List A) → All (λ x. p x ≡ q x) xs → count_of p xs ≡ count_of q xs
unfolding count_of
count_where p q xs h = sum_where _ _ xs (all_then _ _ (λ x e. ap (λ (b : Bool). only b 1) e) xs h)

pub count_append : {A : Type 0} (p : A → Bool) (xs ys : List A) → count_of p (xs ++ ys) ≡ count_of p xs + count_of p ys
unfolding count_of
count_append p = sum_append (λ x. only (p x) 1)

pub count_map : {A B : Type 0} (p : B → Bool) (g : A → B) (xs : List A) → count_of p (map g xs) ≡ count_of (λ x. p (g x)) xs
unfolding count_of
count_map p = sum_map (λ x. only (p x) 1)

pub count_all : {A : Type 0} (xs : List A) → count_of (λ x. true) xs ≡ length xs
unfolding count_of sum_of
count_all [] = refl
count_all (x ∷ xs) = let h = count_all xs in omega arith

-- those that pass and the others are all
pub count_parted : {A : Type 0} (p : A → Bool) (xs : List A) → count_of p xs + count_of (λ x. not (p x)) xs ≡ length xs
unfolding count_of
count_parted p xs = sum_parted p (λ x. 1) xs ∙ count_all xs

pub count_le : {A : Type 0} (p : A → Bool) (xs : List A) → count_of p xs ≤ length xs
count_le p xs = let h = count_parted p xs in omega arith

-- those that pass one of two tests, with those that pass both
pub count_or : {A : Type 0} (p q : A → Bool) (xs : List A) → count_of (λ x. p x || q x) xs + count_of (λ x. p x && q x) xs ≡ count_of p xs + count_of q xs
unfolding count_of
count_or p q xs =
    sym (sum_add (λ x. only (p x || q x) 1) (λ x. only (p x && q x) 1) xs) ∙ sum_agree _ _ (λ x. go (p x) (q x)) xs ∙ sum_add (λ x. only (p x) 1) (λ x. only (q x) 1) xs
  where
    go : (a b : Bool) → only (a || b) 1 + only (a && b) 1 ≡ only a 1 + only b 1
    go true b = refl
    go false true = refl
    go false false = refl

-- none, and some
pub count_none : {A : Type 0} (p : A → Bool) (xs : List A) → any_of p xs ≡ false → count_of p xs ≡ 0
unfolding count_of sum_of any_of
count_none p [] e = refl
count_none p (x ∷ xs) e = go (p x) (count_none p xs) e
  where
    go : (b : Bool) → (any_of p xs ≡ false → sum_of (λ x. only (p x) 1) xs ≡ 0) → (b || any_of p xs) ≡ false → only b 1 + sum_of (λ x. only (p x) 1) xs ≡ 0
    go true ih e = absurd (true≢false e)
    go false ih e = let h = ih e in omega arith

pub count-some : {A : Type 0} (p : A → Bool) (xs : List A) → any_of p xs ≡ true → 1 ≤ count_of p xs
unfolding count_of sum_of any_of
count-some p [] e = absurd (false≢true e)
count-some p (x ∷ xs) e = go (p x) (count-some p xs) e
  where
    go : (b : Bool) → (any_of p xs ≡ true → 1 ≤ sum_of (λ x. only (p x) 1) xs) → (b || any_of p xs) ≡ true → 1 ≤ only b 1 + sum_of (λ x. only (p x) 1) xs
    go true ih e = omega arith
    go false ih e = let h = ih e in omega arith

-- so much for each entry that passes
pub sum_each : {A : Type 0} (p : A → Bool) (n : ℕ) (xs : List A) → sum_of (λ x. only (p x) n) xs ≡ count_of p xs * n
unfolding count_of sum_of
sum_each p n [] = sym (zero-mul n)
sum_each p n (x ∷ xs) = go (p x) (sum_each p n xs)
  where
    rest : ℕ
    rest = sum_of (λ x. only (p x) 1) xs

    go : (b : Bool) → sum_of (λ x. only (p x) n) xs ≡ rest * n → only b n + sum_of (λ x. only (p x) n) xs ≡ (only b 1 + rest) * n
    go true h = let e = suc-mul rest n in omega arith
    go false h = omega (arith, h)

-- what a loop has so far, with what is left: an entry that passes, one that does not, or none left
pub count_in_lem : {A : Type 0} (p : A → Bool) (m : ℕ) (xs ys : List A) (y : A) → xs ≡ y ∷ ys → p y ≡ true → (m + 1) + count_of p ys ≡ m + count_of p xs
unfolding count_of
count_in_lem p m xs ys y e t = sum_first (λ x. only (p x) 1) m (m + 1) 1 xs ys y e refl (ap (λ (b : Bool). only b 1) (sym t))

pub count-out : {A : Type 0} (p : A → Bool) (m : ℕ) (xs ys : List A) (y : A) → xs ≡ y ∷ ys → p y ≡ false → m + count_of p ys ≡ m + count_of p xs
unfolding count_of
count-out p m xs ys y e t = sum_first (λ x. only (p x) 1) m m 0 xs ys y e (omega arith) (ap (λ (b : Bool). only b 1) (sym t))

pub count_end : {A : Type 0} (p : A → Bool) (m : ℕ) (xs : List A) → xs ≡ [] → m + count_of p xs ≡ m
unfolding count_of
count_end p = sum_end (λ x. only (p x) 1)

-- ---- a number's place in a list of numbers: none, or one

abbrev pub AtMostOnce : List ℕ → ℕ → Type 0
AtMostOnce ns n = count_of (eqb n) ns ≡ only (any_of (eqb n) ns) 1

-- a number that is new comes behind the others
pub once_new : (ns : List ℕ) (n k : ℕ) → any_of (eqb n) ns ≡ false → AtMostOnce ns k → AtMostOnce (ns ++ (n ∷ [])) k
unfolding count_of sum_of any_of
once_new ns n k new h = count_append (eqb k) ns (n ∷ []) ∙ go (eqb k n) refl ∙ sym (ap (λ (b : Bool). only b 1) (any_append (eqb k) ns (n ∷ [])))
  where
    had : ℕ
    had = count_of (eqb k) ns

    old : (y : Bool) → had ≡ only y 1 → had + (0 + 0) ≡ only (y || false) 1
    old true e = omega arith
    old false e = omega arith

    go : (x : Bool) → eqb k n ≡ x → had + (only x 1 + 0) ≡ only (any_of (eqb k) ns || (x || false)) 1
    go true e =
        let none : any_of (eqb k) ns ≡ false = ap (λ (i : ℕ). any_of (eqb i) ns) (eqb-true k n e) ∙ new in
        rw none (let z = h ∙ ap (λ (b : Bool). only b 1) none in omega (arith, z))
    go false e = old (any_of (eqb k) ns) h

-- NUMBER BY NUMBER: the sums of the entries that have each number are the sum of all entries that have one of them
pub sum_by : {A : Type 0} (number : A → ℕ) (p : A → Bool) (f : A → ℕ) (ns : List ℕ) (xs : List A) → All (λ x. AtMostOnce ns (number x)) xs
    → sum_of (λ n. sum_of (λ x. only (p x && eqb (number x) n) (f x)) xs) ns ≡ sum_of (λ x. only (p x && any_of (eqb (number x)) ns) (f x)) xs
sum_by number p f ns xs h =
    sum_swap (λ n x. only (p x && eqb (number x) n) (f x)) ns xs ∙ sum_where _ _ xs (all_then _ _ (λ x o. each (p x) (number x) (f x) o) xs h)
  where
    times : (c : ℕ) (b : Bool) (v : ℕ) → c ≡ only b 1 → c * v ≡ only b v
    times c true v e = ap (λ (n : ℕ). n * v) e ∙ one-mul v
    times c false v e = ap (λ (n : ℕ). n * v) e ∙ zero-mul v

    each : (t : Bool) (k v : ℕ) → AtMostOnce ns k → sum_of (λ n. only (t && eqb k n) v) ns ≡ only (t && any_of (eqb k) ns) v
    each true k v o = sum_each (eqb k) v ns ∙ times (count_of (eqb k) ns) (any_of (eqb k) ns) v o
    each false k v o = sum_none ns

-- ---- over the persons of a set

shift : (g : ℕ → ℕ) (k p : ℕ) → sum_of g (numbers k (suc p)) ≡ sum_of (λ j. g (suc j)) (numbers k p)
unfolding sum_of numbers
shift g zero p = refl
shift g (suc k) p = ap (λ (n : ℕ). g (suc p) + n) (shift g k (suc p))

from_sum : (f : ℕ → ℕ) (k p m : ℕ) → sum_of f (members_from k p m) ≡ sum_of (λ j. only (has m j) (f (p + j))) (numbers k 0)
unfolding sum_of members_from numbers
from_sum f zero p m = refl
from_sum f (suc k) p m = first (m % 2) ∙ ap₂ (λ (b : Bool) (n : ℕ). only b (f (p + 0)) + n) (sym (has-zero m)) (later (from_sum f k (suc p) (m / 2)))
  where
    rest : List ℕ
    rest = members_from k (suc p) (m / 2)

    first : (d : ℕ) → sum_of f (when d p rest) ≡ only (odd d) (f (p + 0)) + sum_of f rest
    first zero = omega arith
    first (suc d) = ap (λ (n : ℕ). f n + sum_of f rest) (let e : p ≡ p + 0 = omega arith in e)

    later : sum_of f rest ≡ sum_of (λ j. only (has (m / 2) j) (f (suc p + j))) (numbers k 0) → sum_of f rest ≡ sum_of (λ j. only (has m j) (f (p + j))) (numbers k 1)
    later ih =
        ih ∙ sum_agree _ _ (λ j. ap₂ (λ (b : Bool) (n : ℕ). only b (f n)) (sym (has-suc m j)) (let e : suc p + j ≡ p + suc j = omega arith in e)) (numbers k 0)
        ∙ sym (shift (λ j. only (has m j) (f (p + j))) k 0)

-- of all persons, those of the set
pub sum_members : (f : ℕ → ℕ) (m : ℕ) → sum_of f (members m) ≡ sum_of (λ p. only (has m p) (f p)) (numbers 64 0)
unfolding members
sum_members f m = from_sum f 64 0 m ∙ sum_agree _ _ (λ j. ap (λ (n : ℕ). only (has m j) (f n)) (let e : 0 + j ≡ j = omega arith in e)) (numbers 64 0)

-- two sets that share nobody
pub sum_union : (f : ℕ → ℕ) (a b : ℕ) → disjoint a b ≡ true → sum_of f (members (union a b)) ≡ sum_of f (members a) + sum_of f (members b)
sum_union f a b d =
    sum_members f (union a b) ∙ sum_agree _ _ (λ p. ap (λ (x : Bool). only x (f p)) (has-union a b p) ∙ go p (has a p) (has b p) refl refl) (numbers 64 0)
    ∙ sum_add (λ p. only (has a p) (f p)) (λ p. only (has b p) (f p)) (numbers 64 0) ∙ sym (ap₂ ◌+◌ (sum_members f a) (sum_members f b))
  where
    go : (p : ℕ) (x y : Bool) → has a p ≡ x → has b p ≡ y → only (x || y) (f p) ≡ only x (f p) + only y (f p)
    go p true true e k = absurd (disjoint-true a b d p e k)
    go p true false e k = omega arith
    go p false y e k = omega arith
