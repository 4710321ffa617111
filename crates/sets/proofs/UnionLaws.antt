-- Laws of unions over lists.
use Prim.Native.Nat.{ℕ}
use mathlib.Core.Path.{◌≡◌, refl, sym, ap, ap₂, ◌∙◌}
use mathlib.Core.Bool.{Bool, true, false, ◌||◌, or_assoc, or-false, or_self}
use mathlib.Core.List.{List, [], ◌∷◌, ◌++◌, flat_map}
use Rattle.sets.specs.paper.Sets.{has, one, union, only, set_of, union_of}
use Rattle.sets.proofs.SetLaws.{ext, has-union, has-none}

pub union_assoc : (a b c : ℕ) → union (union a b) c ≡ union a (union b c)
union_assoc a b c =
    ext (union (union a b) c) (union a (union b c)) (λ p.
    has-union (union a b) c p ∙ ap (λ (x : Bool). x || has c p) (has-union a b p) ∙ or_assoc (has a p) (has b p) (has c p)
    ∙ sym (has-union a (union b c) p ∙ ap (λ (x : Bool). has a p || x) (has-union b c p)))

pub none-union : (a : ℕ) → union 0 a ≡ a
none-union a = ext (union 0 a) a (λ p. has-union 0 a p ∙ ap (λ (x : Bool). x || has a p) (has-none p))

pub union-none : (a : ℕ) → union a 0 ≡ a
union-none a = ext (union a 0) a (λ p. has-union a 0 p ∙ ap (λ (x : Bool). has a p || x) (has-none p) ∙ or-false (has a p))

pub union_self : (a : ℕ) → union a a ≡ a
union_self a = ext (union a a) a (λ p. has-union a a p ∙ or_self (has a p))

-- a set added twice is added once
pub union_twice : (a b : ℕ) → union (union a b) b ≡ union a b
union_twice a b = union_assoc a b b ∙ ap (union a) (union_self b)

pub union-agree : {A : Type 0} (f g : A → ℕ) → ((x : A) → f x ≡ g x) → (xs : List A) → union_of f xs ≡ union_of g xs
unfolding union_of
union-agree f g same [] = refl
union-agree f g same (x ∷ xs) = ap₂ union (same x) (union-agree f g same xs)

pub union_append : {A : Type 0} (f : A → ℕ) (xs ys : List A) → union_of f (xs ++ ys) ≡ union (union_of f xs) (union_of f ys)
unfolding union_of
union_append f [] ys = sym (none-union (union_of f ys))
union_append f (x ∷ xs) ys = ap (union (f x)) (union_append f xs ys) ∙ sym (union_assoc (f x) (union_of f xs) (union_of f ys))

-- what a loop has so far, with what is left
pub union_go : {A : Type 0} (f : A → ℕ) (m : ℕ) (x : A) (rest : List A) → union (union m (f x)) (union_of f rest) ≡ union m (union_of f (x ∷ rest))
unfolding union_of
union_go f m x rest = union_assoc m (f x) (union_of f rest)

-- the same from what the code has: an entry more, or none left
pub union-first : {A : Type 0} (f : A → ℕ) (m t x : ℕ) (xs ys : List A) (y : A) → xs ≡ y ∷ ys → t ≡ union m x → x ≡ f y
    → union t (union_of f ys) ≡ union m (union_of f xs)
union-first f m t x xs ys y e k h =
    ap (λ (z : ℕ). union z (union_of f ys)) (k ∙ ap (union m) h) ∙ union_go f m y ys ∙ ap (λ (zs : List _). union m (union_of f zs)) (sym e)

pub union_end : {A : Type 0} (f : A → ℕ) (m : ℕ) (xs : List A) → xs ≡ [] → union m (union_of f xs) ≡ m
unfolding union_of
union_end f m xs e = ap (λ (zs : List _). union m (union_of f zs)) e ∙ union-none m

-- over lists that the entries of another list give
pub union_flat : {A B : Type 0} (f : A → ℕ) (h : B → List A) (bs : List B) → union_of f (flat_map h bs) ≡ union_of (λ b. union_of f (h b)) bs
unfolding flat_map union_of
union_flat f h [] = refl
union_flat f h (b ∷ bs) = union_append f (h b) (flat_map h bs) ∙ ap (union (union_of f (h b))) (union_flat f h bs)

pub set-union : (ps : List ℕ) → set_of ps ≡ union_of one ps
unfolding set_of union_of
set-union [] = refl
set-union (p ∷ ps) = ap (union (one p)) (set-union ps)

-- a set that comes in where the test holds
pub joined_if : (m p : ℕ) (b : Bool) → b ≡ true → union m p ≡ union m (only b p)
joined_if m p b e = ap (λ (x : Bool). union m (only x p)) (sym e)

pub left_if : (m p : ℕ) (b : Bool) → b ≡ false → m ≡ union m (only b p)
left_if m p b e = sym (union-none m) ∙ ap (λ (x : Bool). union m (only x p)) (sym e)
