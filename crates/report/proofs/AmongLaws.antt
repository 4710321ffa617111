-- What stands in a list: in lists joined, made entry by entry, or listed by a test.
use mathlib.Core.Path.{◌≡◌, refl, sym, ap, ◌∙◌, subst}
use mathlib.Core.Bool.{Bool, true, false, ◌||◌, cond}
use mathlib.Core.List.{List, [], ◌∷◌, ◌++◌, map, flat_map}
use mathlib.Core.Logic.{◌⊎◌, inl, inr}
use Prim.Native.Nat.{ℕ, zero, suc, ◌+◌, ◌<◌, ◌≤◌}
use native.Mathlib.Omega.{arith}
use Rattle.sets.specs.paper.Sets.{numbers, any_of, All}
use Rattle.sets.proofs.SetLaws.{lt_or_le}
use Rattle.sets.proofs.Local.{clash}
use Rattle.worlds.specs.paper.Events.{listed}

abbrev pub Among : {A : Type 0} → A → List A → Type 0
Among a [] = ⊥
Among a (x ∷ xs) = (a ≡ x) ⊎ Among a xs

pub all_each : {A : Type 0} (Q : A → Type 0) (xs : List A) → All Q xs → (a : A) → Among a xs → Q a
all_each Q [] h a k = absurd k
all_each Q (x ∷ xs) h a (inl e) = subst Q (sym e) h.0
all_each Q (x ∷ xs) h a (inr k) = all_each Q xs h.1 a k

pub each_all : {A : Type 0} (Q : A → Type 0) (xs : List A) → ((a : A) → Among a xs → Q a) → All Q xs
each_all Q [] h = tt
each_all Q (x ∷ xs) h = (h x (inl refl), each_all Q xs (λ a k. h a (inr k)))

-- ---- in two lists joined

pub in_left : {A : Type 0} (a : A) (xs ys : List A) → Among a xs → Among a (xs ++ ys)
in_left a [] ys k = absurd k
in_left a (x ∷ xs) ys (inl e) = inl e
in_left a (x ∷ xs) ys (inr k) = inr (in_left a xs ys k)

pub in_right : {A : Type 0} (a : A) (xs ys : List A) → Among a ys → Among a (xs ++ ys)
in_right a [] ys k = k
in_right a (x ∷ xs) ys k = inr (in_right a xs ys k)

pub of_both : {A : Type 0} (a : A) (xs ys : List A) → Among a (xs ++ ys) → Among a xs ⊎ Among a ys
of_both a [] ys k = inr k
of_both a (x ∷ xs) ys (inl e) = inl (inl e)
of_both a (x ∷ xs) ys (inr k) = go (of_both a xs ys k)
  where
    go : Among a xs ⊎ Among a ys → Among a (x ∷ xs) ⊎ Among a ys
    go (inl j) = inl (inr j)
    go (inr j) = inr j

-- ---- in what the entries of a list give

pub in_flat : {A B : Type 0} (f : A → List B) (xs : List A) (a : A) (b : B) → Among a xs → Among b (f a) → Among b (flat_map f xs)
unfolding flat_map
in_flat f [] a b h k = absurd h
in_flat f (x ∷ xs) a b (inl e) k = in_left b (f x) (flat_map f xs) (subst (λ y. Among b (f y)) e k)
in_flat f (x ∷ xs) a b (inr h) k = in_right b (f x) (flat_map f xs) (in_flat f xs a b h k)

pub of_flat : {A B : Type 0} (f : A → List B) (xs : List A) (b : B) → Among b (flat_map f xs) → (a : A) × (Among a xs) × (Among b (f a))
unfolding flat_map
of_flat f [] b k = absurd k
of_flat f (x ∷ xs) b k = go (of_both b (f x) (flat_map f xs) k) (of_flat f xs b)
  where
    go : Among b (f x) ⊎ Among b (flat_map f xs) → (Among b (flat_map f xs) → (a : _) × (Among a xs) × (Among b (f a)))
        → (a : _) × (Among a (x ∷ xs)) × (Among b (f a))
    go (inl j) ih = (x, inl refl, j)
    go (inr j) ih = let r = ih j in (r.0, inr r.1, r.2)

pub in_map : {A B : Type 0} (f : A → B) (xs : List A) (a : A) (b : B) → Among a xs → b ≡ f a → Among b (map f xs)
in_map f [] a b h e = absurd h
in_map f (x ∷ xs) a b (inl z) e = inl (e ∙ ap f z)
in_map f (x ∷ xs) a b (inr h) e = inr (in_map f xs a b h e)

pub of_map : {A B : Type 0} (f : A → B) (xs : List A) (b : B) → Among b (map f xs) → (a : A) × (Among a xs) × (b ≡ f a)
of_map f [] b k = absurd k
of_map f (x ∷ xs) b (inl e) = (x, inl refl, e)
of_map f (x ∷ xs) b (inr k) = let r = of_map f xs b k in (r.0, inr r.1, r.2)

-- ---- among the numbers from k on

pub in_numbers : (n k j : ℕ) → k ≤ j → j < k + n → Among j (numbers n k)
unfolding numbers
in_numbers zero k j l h = absurd (omega arith)
in_numbers (suc n) k j l h = go (lt_or_le k j) (in_numbers n (suc k) j)
  where
    go : (k < j) ⊎ (j ≤ k) → (suc k ≤ j → j < suc k + n → Among j (numbers n (suc k))) → (j ≡ k) ⊎ Among j (numbers n (suc k))
    go (inl m) ih = inr (ih m (omega arith))
    go (inr m) ih = inl (omega arith)

pub of_numbers : (n k j : ℕ) → Among j (numbers n k) → (k ≤ j) × (j < k + n)
unfolding numbers
of_numbers zero k j h = absurd h
of_numbers (suc n) k j (inl e) = (omega arith, omega arith)
of_numbers (suc n) k j (inr h) = let r = of_numbers n (suc k) j h in (omega (arith, r.0), omega (arith, r.1))

-- ---- in what is listed by a test

pub of_if : {A : Type 0} (b : Bool) (x a : A) → Among a (cond b (x ∷ []) []) → (b ≡ true) × (a ≡ x)
of_if true x a (inl e) = (refl, e)
of_if true x a (inr k) = absurd k
of_if false x a k = absurd k

pub of_listed : (n : ℕ) (test : ℕ → Bool) (make : ℕ → List ℕ) (e : List ℕ) → Among e (listed n test make) → (i : ℕ) × (i < n) × (test i ≡ true) × (e ≡ make i)
unfolding listed
of_listed n test make e k =
    let r = of_flat (λ i. cond (test i) (make i ∷ []) []) (numbers n 0) e k in
    let l = (of_numbers n 0 r.0 r.1).1 in let t = of_if (test r.0) (make r.0) e r.2 in
    (r.0, omega (arith, l), t.0, t.1)

pub in_listed : (n : ℕ) (test : ℕ → Bool) (make : ℕ → List ℕ) (e : List ℕ) (i : ℕ) → i < n → test i ≡ true → e ≡ make i → Among e (listed n test make)
unfolding listed
in_listed n test make e i l t z =
    in_flat (λ i. cond (test i) (make i ∷ []) []) (numbers n 0) i e (in_numbers n 0 i (omega arith) (omega arith))
    (subst (λ (b : Bool). Among e (cond b (make i ∷ []) [])) (sym t) (inl z))

-- ---- some entry passes

pub in_any : {A : Type 0} (t : A → Bool) (xs : List A) (a : A) → Among a xs → t a ≡ true → any_of t xs ≡ true
unfolding any_of
in_any t [] a h e = absurd h
in_any t (x ∷ xs) a (inl z) e = ap (λ (b : Bool). b || any_of t xs) (ap t (sym z) ∙ e)
in_any t (x ∷ xs) a (inr h) e = go (t x) (in_any t xs a h e)
  where
    go : (b : Bool) → any_of t xs ≡ true → (b || any_of t xs) ≡ true
    go true z = refl
    go false z = z

pub of_any : {A : Type 0} (t : A → Bool) (xs : List A) → any_of t xs ≡ true → (a : A) × (Among a xs) × (t a ≡ true)
unfolding any_of
of_any t [] e = clash e refl
of_any t (x ∷ xs) e = go (t x) refl e (of_any t xs)
  where
    go : (b : Bool) → t x ≡ b → (b || any_of t xs) ≡ true → (any_of t xs ≡ true → (a : _) × (Among a xs) × (t a ≡ true)) → (a : _) × (Among a (x ∷ xs)) × (t a ≡ true)
    go true z e ih = (x, inl refl, z)
    go false z e ih = let r = ih e in (r.0, inr r.1, r.2)
