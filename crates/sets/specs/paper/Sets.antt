-- Sets of persons. Document 01, "Plan record": "A mask is 8 bytes, bit p for person p (0–63)". A set is the mask itself, a number.
use Rattle.std.specs.Prelude.{Bool, true, false, ◌&&◌, ◌||◌, not, cond, List, [], ◌∷◌, map, ℕ, zero, suc, ◌+◌, ◌/◌, ◌%◌, ◌^◌, eqb, ltb, length}
use Rattle.std.specs.Int.Bits.{bit_and, bit_or, bit_xor}
use Rattle.std.specs.Int.Count.{ones_in, count_trailing_zeros}

-- ---- membership and the operations

abbrev pub odd : ℕ → Bool
odd zero = false
odd (suc n) = true

-- "bit p for person p"
unfoldable pub has : ℕ → ℕ → Bool
has m p = odd (m / 2 ^ p % 2)

-- the set of one person: "the power of two"
unfoldable pub one : ℕ → ℕ
one p = 2 ^ p

unfoldable pub union : ℕ → ℕ → ℕ
union a b = bit_or a b

unfoldable pub meet : ℕ → ℕ → ℕ
meet a b = bit_and a b

unfoldable pub minus : ℕ → ℕ → ℕ
minus a b = bit_xor a (bit_and a b)

unfoldable pub disjoint : ℕ → ℕ → Bool
disjoint a b = eqb (meet a b) 0

-- "sets that meet"
unfoldable pub meets : ℕ → ℕ → Bool
meets a b = not (disjoint a b)

unfoldable pub subset : ℕ → ℕ → Bool
subset a b = eqb (minus a b) 0

-- the set where the test holds, else nobody; of an amount, the amount or 0
abbrev pub only : Bool → ℕ → ℕ
only b m = cond b m 0

-- the persons (or other numbers below 64) of a list, as a set
unfoldable pub set_of : List ℕ → ℕ
set_of [] = 0
set_of (p ∷ ps) = union (one p) (set_of ps)

-- "a block's size is its count of ones"
unfoldable pub size : ℕ → ℕ
size m = ones_in 64 m

-- "trailing zeros give a set's lowest person"; 64 for the empty set
unfoldable pub lowest : ℕ → ℕ
lowest m = count_trailing_zeros 64 m

-- ---- "as rising person lists"

abbrev pub when : ℕ → ℕ → List ℕ → List ℕ
when zero p r = r
when (suc d) p r = p ∷ r

unfoldable pub members_from : ℕ → ℕ → ℕ → List ℕ
members_from zero p m = []
members_from (suc k) p m = when (m % 2) p (members_from k (suc p) (m / 2))

-- the persons of a set, rising
unfoldable pub members : ℕ → List ℕ
members m = members_from 64 0 m

-- by the first place where two lists differ, "a prefix first"
unfoldable pub lex_less : List ℕ → List ℕ → Bool
lex_less [] [] = false
lex_less [] (y ∷ ys) = true
lex_less (x ∷ xs) [] = false
lex_less (x ∷ xs) (y ∷ ys) = cond (eqb x y) (lex_less xs ys) (ltb x y)

unfoldable pub rising_less : ℕ → ℕ → Bool
rising_less a b = lex_less (members a) (members b)

-- ---- the closing of a set under a list of sets

-- the set s comes in where it meets m
unfoldable pub absorb : ℕ → ℕ → ℕ
absorb s m = cond (disjoint s m) m (union m s)

-- each set once, in order, "acting on what earlier ones added"
unfoldable pub pass : List ℕ → ℕ → ℕ
pass [] m = m
pass (s ∷ ss) m = pass ss (absorb s m)

-- at most k passes, up to one that adds nobody
unfoldable pub passes : ℕ → List ℕ → ℕ → ℕ
passes zero ss m = m
passes (suc k) ss m = let next = pass ss m in elim (eqb next m) [ true ↦ m | false ↦ passes k ss next ]

-- "until nothing grows": each pass that adds someone brings in one more of the sets whole
unfoldable pub close_of : List ℕ → ℕ → ℕ
close_of ss m = passes (length ss) ss m

-- ---- loops over the numbers below n

unfoldable pub numbers : ℕ → ℕ → List ℕ
numbers zero k = []
numbers (suc n) k = k ∷ numbers n (suc k)

-- f 0 … f (n − 1)
unfoldable pub below : {A : Type 0} → ℕ → (ℕ → A) → List A
below n f = map f (numbers n 0)

unfoldable pub any_below : ℕ → (ℕ → Bool) → Bool
any_below zero f = false
any_below (suc n) f = any_below n f || f n

unfoldable pub union_below : ℕ → (ℕ → ℕ) → ℕ
union_below zero f = 0
union_below (suc n) f = union (union_below n f) (f n)

unfoldable pub fold_below : {A : Type 0} → ℕ → (ℕ → A → A) → A → A
fold_below zero f a = a
fold_below (suc n) f a = f n (fold_below n f a)

unfoldable pub all_of : {A : Type 0} → (A → Bool) → List A → Bool
all_of f [] = true
all_of f (x ∷ xs) = f x && all_of f xs

unfoldable pub any_of : {A : Type 0} → (A → Bool) → List A → Bool
any_of f [] = false
any_of f (x ∷ xs) = f x || any_of f xs

unfoldable pub union_of : {A : Type 0} → (A → ℕ) → List A → ℕ
union_of f [] = 0
union_of f (x ∷ xs) = union (f x) (union_of f xs)

-- the sum of what each entry has
unfoldable pub sum_of : {A : Type 0} → (A → ℕ) → List A → ℕ
sum_of f [] = 0
sum_of f (x ∷ xs) = f x + sum_of f xs

-- how many entries pass the test
unfoldable pub count_of : {A : Type 0} → (A → Bool) → List A → ℕ
count_of f xs = sum_of (λ x. only (f x) 1) xs

-- what holds of each entry
abbrev pub All : {A : Type 0} → (A → Type 0) → List A → Type 0
All Q [] = Unit {0}
All Q (x ∷ xs) = Q x × All Q xs
