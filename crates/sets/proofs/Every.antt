-- Laws of what holds of each entry of a list.
use mathlib.Core.Path.{◌≡◌, refl, sym, ap, ◌∙◌}
use mathlib.Core.Bool.{Bool, true, ◌||◌, or_assoc}
use mathlib.Core.List.{List, [], ◌∷◌, ◌++◌, map}
use Prim.Native.Nat.{ℕ, zero, suc, ◌≤◌, ◌<◌}
use native.Mathlib.Omega.{arith}
use lib.ListN.{get_or}
use lib.Dec.{ltb}
use borrow.Author.Tests.{ltb-true}
use Rattle.sets.specs.paper.Sets.{all_of, any_of, All}
use Rattle.sets.proofs.SetLaws.{and_parts}

-- of which nothing is asked
pub all_any : {A : Type 0} (xs : List A) → All (λ x. Unit {0}) xs
all_any [] = tt
all_any (x ∷ xs) = (tt, all_any xs)

-- what follows for each
pub all_then : {A : Type 0} (Q R : A → Type 0) → ((x : A) → Q x → R x) → (xs : List A) → All Q xs → All R xs
all_then Q R f [] h = tt
all_then Q R f (x ∷ xs) h = (f x h.0, all_then Q R f xs h.1)

-- what follows for each from two things
pub all_both : {A : Type 0} (Q R S : A → Type 0) → ((x : A) → Q x → R x → S x) → (xs : List A) → All Q xs → All R xs → All S xs
all_both Q R S f [] h k = tt
all_both Q R S f (x ∷ xs) h k = (f x h.0 k.0, all_both Q R S f xs h.1 k.1)

pub all_parts : {A : Type 0} (Q : A → Type 0) (xs ys : List A) → All Q (xs ++ ys) → All Q xs × All Q ys
all_parts Q [] ys h = (tt, h)
all_parts Q (x ∷ xs) ys h =
    let r = all_parts Q xs ys h.1 in
    ((h.0, r.0), r.1)

pub all_of_map : {A B : Type 0} (f : A → B) (Q : B → Type 0) (xs : List A) → All Q (map f xs) → All (λ x. Q (f x)) xs
all_of_map f Q [] h = tt
all_of_map f Q (x ∷ xs) h = (h.0, all_of_map f Q xs h.1)

pub all_map : {A B : Type 0} (f : A → B) (Q : B → Type 0) → ((x : A) → Q (f x)) → (xs : List A) → All Q (map f xs)
all_map f Q h [] = tt
all_map f Q h (x ∷ xs) = (h x, all_map f Q h xs)

-- an entry, or what stands for one past the end
pub all_get_d : {A : Type 0} (Q : A → Type 0) (xs : List A) (d : A) → All Q xs → Q d → (i : ℕ) → Q (get_or xs i d)
all_get_d Q [] d h k i = k
all_get_d Q (x ∷ xs) d h k zero = h.0
all_get_d Q (x ∷ xs) d h k (suc i) = all_get_d Q xs d h.1 k i

-- a test that holds of all
pub all_tested : {A : Type 0} (f : A → Bool) (xs : List A) → all_of f xs ≡ true → All (λ x. f x ≡ true) xs
unfolding all_of
all_tested f [] e = tt
all_tested f (x ∷ xs) e =
    let t = and_parts (f x) (all_of f xs) e in
    (t.0, all_tested f xs t.1)

-- a test that holds of one of two lists
pub any_append : {A : Type 0} (f : A → Bool) (xs ys : List A) → any_of f (xs ++ ys) ≡ (any_of f xs || any_of f ys)
unfolding any_of
any_append f [] ys = refl
any_append f (x ∷ xs) ys = ap (λ (b : Bool). f x || b) (any_append f xs ys) ∙ sym (or_assoc (f x) (any_of f xs) (any_of f ys))

-- numbers that a test lets through
pub all_less : (bound : ℕ) (v : List ℕ) → All (λ i. ltb i bound ≡ true) v → All (λ i. i < bound) v
all_less bound = all_then (λ i. ltb i bound ≡ true) (λ i. i < bound) (λ i t. ltb-true i bound t)

pub exactly_one : (n : ℕ) → n ≤ 1 → (n ≡ 0 → ⊥) → n ≡ 1
exactly_one n l z = omega arith
