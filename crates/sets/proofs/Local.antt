-- Sets seen from a circle C of persons: inside it, outside it, alike in it; and loops and closings over such sets.
use mathlib.Core.Path.{◌≡◌, refl, sym, ap, ap₂, ◌∙◌, subst}
use mathlib.Core.Bool.{Bool, true, false, ◌&&◌, ◌||◌, not, cond, or-false, not-not, true≢false}
use mathlib.Core.Logic.{◌⊎◌, inl, inr}
use mathlib.Core.List.{List, [], ◌∷◌, ◌++◌, map}
use Prim.Native.Nat.{ℕ, zero, suc, ◌+◌, ◌<◌, ◌≤◌}
use native.Mathlib.Omega.{arith}
use lib.ListN.{length, get_or}
use lib.Dec.{eqb}
use borrow.Author.Tests.{eqb-true, eqb-false, eq-eqb, not-true}
use Rattle.sets.specs.paper.Sets.{has, one, union, meet, minus, disjoint, meets, subset, only, absorb, pass, passes, close_of, numbers, below, any_below, union_below, fold_below, union_of, All}
use Rattle.sets.proofs.SetLaws.{ext, has-none, has_one, has-union, has_meet, has-minus, of_union, of_minus, in_union_l, in_union_r, disjoint-true, disjoint-false, apart, member, lt_or_le}
use Rattle.sets.proofs.Closing.{Takes, Closed, passes-next}
use Rattle.sets.proofs.LoopLaws.{get_or-below, get_d_past, length-below, all_at}
use Rattle.sets.proofs.Every.{all_then}

-- ---- tests

pub which : (b : Bool) → (b ≡ true) ⊎ (b ≡ false)
which true = inl refl
which false = inr refl

pub clash : {A : Type 0} {b : Bool} → b ≡ true → b ≡ false → A
clash p q = absurd (true≢false (sym p ∙ q))

-- ---- what the words mean

pub record Inside (C : ℕ → Bool) (s : ℕ) : Type 0 where
  pub at : (q : ℕ) → has s q ≡ true → C q ≡ true

abbrev pub outer : (ℕ → Bool) → ℕ → Bool
outer C q = not (C q)

abbrev pub Outside : (ℕ → Bool) → ℕ → Type 0
Outside C s = Inside (outer C) s

pub record Agree (C : ℕ → Bool) (a b : ℕ) : Type 0 where
  pub at : (q : ℕ) → C q ≡ true → has a q ≡ has b q

-- inside and the same, or both outside
pub data Twin (C : ℕ → Bool) : ℕ → ℕ → Type 0 where
  near : {a : ℕ} → Inside C a → Twin C a a
  far : {a b : ℕ} → Outside C a → Outside C b → Twin C a b

-- with one of the circle in it, and then inside; or outside
pub data Side (C : ℕ → Bool) (s : ℕ) : Type 0 where
  inside : (q : ℕ) → has s q ≡ true → C q ≡ true → Inside C s → Side C s
  outside : Outside C s → Side C s

-- for closing alone it does not matter who is in it
abbrev pub Weak : (ℕ → Bool) → ℕ → Type 0
Weak C s = Inside C s ⊎ Outside C s

-- rules that hold one of the circle have the same flag
abbrev pub Flag : (ℕ → Bool) → (ℕ → ℕ) → (ℕ → Bool) → (ℕ → Bool) → Type 0
Flag C persons f g = (i q : ℕ) → has (persons i) q ≡ true → C q ≡ true → f i ≡ g i

-- ---- their algebra

module _ (C : ℕ → Bool) where
  pub in_zero : Inside C 0
  in_zero = record { at = λ q e. clash e (has-none q) }

  pub in_single : (p : ℕ) → C p ≡ true → Inside C (one p)
  in_single p h = record { at = λ q e. ap C (sym (eqb-true p q (sym (has_one p q) ∙ e))) ∙ h }

  pub in_union : {a b : ℕ} → Inside C a → Inside C b → Inside C (union a b)
  in_union {a} {b} h k = record { at = λ q e. go q (of_union a b q e) }
    where
      go : (q : ℕ) → (has a q ≡ true) ⊎ (has b q ≡ true) → C q ≡ true
      go q (inl x) = h.at q x
      go q (inr x) = k.at q x

  pub in_less : {a : ℕ} (b : ℕ) → Inside C a → Inside C (minus a b)
  in_less {a} b h = record { at = λ q e. h.at q (of_minus a b q e).0 }

  pub in_only : {a : ℕ} (b : Bool) → Inside C a → Inside C (only b a)
  in_only true h = h
  in_only false h = in_zero

  pub in_cond : {x y : ℕ} (b : Bool) → Inside C x → Inside C y → Inside C (cond b x y)
  in_cond true h k = h
  in_cond false h k = k

  pub in_not : {s : ℕ} (q : ℕ) → Inside C s → C q ≡ false → has s q ≡ false
  in_not {s} q h e = go (has s q) refl
    where
      go : (b : Bool) → has s q ≡ b → b ≡ false
      go true x = clash (h.at q x) e
      go false x = refl

  pub out-not : {s : ℕ} (q : ℕ) → Outside C s → C q ≡ true → has s q ≡ false
  out-not {s} q h e = go (has s q) refl
    where
      go : (b : Bool) → has s q ≡ b → b ≡ false
      go true x = clash e (not-true (C q) (h.at q x))
      go false x = refl

  pub in_left : (a b : ℕ) → Inside C (union a b) → Inside C a
  in_left a b h = record { at = λ q e. h.at q ((in_union_l a b).at q e) }

  pub in_right : (a b : ℕ) → Inside C (union a b) → Inside C b
  in_right a b h = record { at = λ q e. h.at q ((in_union_r a b).at q e) }

  pub at_single : (p : ℕ) → Inside C (one p) → C p ≡ true
  at_single p h = h.at p (has_one p p ∙ eq-eqb p p refl)

  -- ---- alike

  pub agree_refl : (a : ℕ) → Agree C a a
  agree_refl a = record { at = λ q e. refl }

  pub agree-sym : {a b : ℕ} → Agree C a b → Agree C b a
  agree-sym h = record { at = λ q e. sym (h.at q e) }

  pub agree-union : {a b c d : ℕ} → Agree C a b → Agree C c d → Agree C (union a c) (union b d)
  agree-union {a} {b} {c} {d} h k = record { at = λ q e. has-union a c q ∙ ap₂ ◌||◌ (h.at q e) (k.at q e) ∙ sym (has-union b d q) }

  pub agree-minus : {a b c d : ℕ} → Agree C a b → Agree C c d → Agree C (minus a c) (minus b d)
  agree-minus {a} {b} {c} {d} h k = record {
    at = λ q e. has-minus a c q ∙ ap₂ (λ (x y : Bool). x && not y) (h.at q e) (k.at q e) ∙ sym (has-minus b d q);
  }

  pub agree-meet : {a b : ℕ} (m : ℕ) → Agree C a b → Agree C (meet m a) (meet m b)
  agree-meet {a} {b} m h = record { at = λ q e. has_meet m a q ∙ ap (λ (x : Bool). has m q && x) (h.at q e) ∙ sym (has_meet m b q) }

  pub agree-out : {a b : ℕ} → Outside C a → Outside C b → Agree C a b
  agree-out h k = record { at = λ q e. out-not q h e ∙ sym (out-not q k e) }

  pub agree_twin : {a b : ℕ} → Twin C a b → Agree C a b
  agree_twin (near h) = agree_refl _
  agree_twin (far h k) = agree-out h k

  pub agree_same : {a b : ℕ} → Agree C a b → Inside C a → Inside C b → a ≡ b
  agree_same {a} {b} h i j = ext a b (λ q. go q (which (C q)))
    where
      go : (q : ℕ) → (C q ≡ true) ⊎ (C q ≡ false) → has a q ≡ has b q
      go q (inl e) = h.at q e
      go q (inr e) = in_not q i e ∙ sym (in_not q j e)

  -- what is added outside does not show
  pub agree_frame : {a b x : ℕ} → Agree C a b → Outside C x → Agree C (union a x) b
  agree_frame {a} {b} {x} h o = record { at = λ q e. has-union a x q ∙ ap₂ ◌||◌ (h.at q e) (out-not q o e) ∙ or-false (has b q) }

  -- ---- tests of two sets

  meet-near : {s a b : ℕ} → Inside C s → Agree C a b → meet s a ≡ meet s b
  meet-near {s} {a} {b} h k = ext (meet s a) (meet s b) (λ q. has_meet s a q ∙ go q (has s q) refl ∙ sym (has_meet s b q))
    where
      go : (q : ℕ) (x : Bool) → has s q ≡ x → (x && has a q) ≡ (x && has b q)
      go q true e = k.at q (h.at q e)
      go q false e = refl

  pub meets-near : {s a b : ℕ} → Inside C s → Agree C a b → meets s a ≡ meets s b
  unfolding meets disjoint
  meets-near h k = ap (λ (x : ℕ). not (eqb x 0)) (meet-near h k)

  -- a set inside does not meet one outside
  pub meets-out : {s a : ℕ} → Inside C s → Outside C a → meets s a ≡ false
  unfolding meets
  meets-out {s} {a} h k = ap not (apart s a (λ q x y. clash (h.at q x) (not-true (C q) (k.at q y))))

  pub minus-near : {s a b : ℕ} → Inside C s → Agree C a b → minus s a ≡ minus s b
  minus-near {s} {a} {b} h k = agree_same (agree-minus (agree_refl s) k) (in_less a h) (in_less b h)

  pub subset-near : {s a b : ℕ} → Inside C s → Agree C a b → subset s a ≡ subset s b
  unfolding subset
  subset-near h k = ap (λ (x : ℕ). eqb x 0) (minus-near h k)

  -- nothing of a set inside is taken away by a set outside
  pub minus-far : {a s : ℕ} → Inside C a → Outside C s → minus a s ≡ a
  minus-far {a} {s} h k = ext (minus a s) a (λ q. has-minus a s q ∙ go q (has a q) refl)
    where
      go : (q : ℕ) (x : Bool) → has a q ≡ x → (x && not (has s q)) ≡ x
      go q true e = ap not (out-not q k (h.at q e))
      go q false e = refl

  -- ---- sides

  pub ins : {s q : ℕ} → Side C s → has s q ≡ true → C q ≡ true → Inside C s
  ins (inside r h e i) k l = i
  ins {s} {q} (outside o) k l = clash k (out-not q o l)

  pub weak : {s : ℕ} → Side C s → Weak C s
  weak (inside q h e i) = inl i
  weak (outside o) = inr o

  pub weak_only : {s : ℕ} (b : Bool) → Weak C s → Weak C (only b s)
  weak_only true h = h
  weak_only false h = inl in_zero

  pub twin_self : {s : ℕ} → Weak C s → Twin C s s
  twin_self (inl i) = near i
  twin_self (inr o) = far o o

  pub twin_near : {a b : ℕ} → Inside C a → a ≡ b → Twin C a b
  twin_near {a} h e = subst (Twin C a) e (near h)

  -- one person is on one side
  pub single_side : (p : ℕ) → Side C (one p)
  single_side p = go (which (C p))
    where
      go : (C p ≡ true) ⊎ (C p ≡ false) → Side C (one p)
      go (inl e) = inside p (has_one p p ∙ eq-eqb p p refl) e (in_single p e)
      go (inr e) = outside (record { at = λ q x. ap not (ap C (sym (eqb-true p q (sym (has_one p q) ∙ x))) ∙ e) })

pub out-only : (C : ℕ → Bool) {s : ℕ} (b : Bool) → Outside C s → Outside C (only b s)
out-only C b o = in_only (outer C) b o

pub weak_outer : (C : ℕ → Bool) {s : ℕ} → Weak C s → Weak (outer C) s
weak_outer C (inl h) = inr (record { at = λ q e. not-not (C q) ∙ h.at q e })
weak_outer C (inr h) = inl h

-- the sets where two tests hold that are the same if the set is near
pub twin_only : (C : ℕ → Bool) {s : ℕ} {a b : Bool} → Side C s → ((q : ℕ) → has s q ≡ true → C q ≡ true → a ≡ b) → Twin C (only a s) (only b s)
twin_only C {s} {a} {b} (inside q h e i) k = twin_near C (in_only C a i) (ap (λ (x : Bool). only x s) (k q h e))
twin_only C {s} {a} {b} (outside o) k = far (out-only C a o) (out-only C b o)

-- a set that is closed under others has each of them inside or outside
takes_weak : (s m : ℕ) → Takes s m → Weak (has m) s
takes_weak s m t = go (which (disjoint s m))
  where
    no : disjoint s m ≡ true → (q : ℕ) → has s q ≡ true → (has m q ≡ true) ⊎ (has m q ≡ false) → not (has m q) ≡ true
    no e q x (inl y) = absurd (disjoint-true s m e q x y)
    no e q x (inr y) = ap not y

    go : (disjoint s m ≡ true) ⊎ (disjoint s m ≡ false) → Weak (has m) s
    go (inl e) = inr (record { at = λ q x. no e q x (which (has m q)) })
    go (inr e) = let w = disjoint-false s m e in inl (record { at = λ q x. (t w.0 w.1 w.2).at q x })

pub closed_weak : (ss : List ℕ) (m : ℕ) → Closed ss m → All (Weak (has m)) ss
closed_weak [] m t = tt
closed_weak (s ∷ ss) m t = (takes_weak s m t.0, closed_weak ss m t.1)

-- ---- lists of sets, one beside the other

abbrev pub Twins : (ℕ → Bool) → List ℕ → List ℕ → Type 0
Twins C [] [] = Unit {0}
Twins C [] (t ∷ ts) = ⊥
Twins C (s ∷ ss) [] = ⊥
Twins C (s ∷ ss) (t ∷ ts) = Twin C s t × Twins C ss ts

pub twins_append : (C : ℕ → Bool) (us vs cs ds : List ℕ) → Twins C us vs → Twins C cs ds → Twins C (us ++ cs) (vs ++ ds)
twins_append C [] [] cs ds h k = k
twins_append C [] (b ∷ vs) cs ds h k = absurd h
twins_append C (a ∷ us) [] cs ds h k = absurd h
twins_append C (a ∷ us) (b ∷ vs) cs ds h k = (h.0, twins_append C us vs cs ds h.1 k)

twins-numbers : (C : ℕ → Bool) (f g : ℕ → ℕ) (n k : ℕ) → ((i : ℕ) → i < n → Twin C (f (k + i)) (g (k + i))) → Twins C (map f (numbers n k)) (map g (numbers n k))
unfolding numbers
twins-numbers C f g zero k h = tt
twins-numbers C f g (suc n) k h = (
  subst (λ (i : ℕ). Twin C (f i) (g i)) (let z : k + 0 ≡ k = omega arith in z) (h 0 (omega arith)),
  twins-numbers C f g n (suc k) (λ i l. subst (λ (j : ℕ). Twin C (f j) (g j)) (let z : k + suc i ≡ suc k + i = omega arith in z) (h (suc i) (omega arith))),
)

pub twins-below : (C : ℕ → Bool) (f g : ℕ → ℕ) (n : ℕ) → ((i : ℕ) → i < n → Twin C (f i) (g i)) → Twins C (below n f) (below n g)
unfolding below
twins-below C f g n h = twins-numbers C f g n 0 (λ i l. subst (λ (j : ℕ). Twin C (f j) (g j)) (let z : i ≡ 0 + i = omega arith in z) (h i l))

pub twins-self : (C : ℕ → Bool) (ss : List ℕ) → All (Weak C) ss → Twins C ss ss
twins-self C [] h = tt
twins-self C (s ∷ ss) h = (twin_self C h.0, twins-self C ss h.1)

pub twins-length : (C : ℕ → Bool) (ss ts : List ℕ) → Twins C ss ts → length ss ≡ length ts
twins-length C [] [] h = refl
twins-length C [] (t ∷ ts) h = absurd h
twins-length C (s ∷ ss) [] h = absurd h
twins-length C (s ∷ ss) (t ∷ ts) h = ap suc (twins-length C ss ts h.1)

pub twins_at : (C : ℕ → Bool) (ss ts : List ℕ) → Twins C ss ts → (i : ℕ) → Agree C (get_or ss i 0) (get_or ts i 0)
twins_at C [] [] h i = agree_refl C 0
twins_at C [] (t ∷ ts) h i = absurd h
twins_at C (s ∷ ss) [] h i = absurd h
twins_at C (s ∷ ss) (t ∷ ts) h zero = agree_twin C h.0
twins_at C (s ∷ ss) (t ∷ ts) h (suc i) = twins_at C ss ts h.1 i

-- one entry of a list of entries below n
pub all_below : {A : Type 0} (Q : A → Type 0) (n : ℕ) (f : ℕ → A) → All Q (below n f) → (i : ℕ) → i < n → Q (f i)
all_below Q n f h i l =
    subst Q (get_or-below n f (f i) i l)
    (all_at Q (below n f) (f i) i h (subst (λ (k : ℕ). i < k) (sym (length-below n f)) l))

numbers_all : {A : Type 0} (Q : A → Type 0) (n k : ℕ) (f : ℕ → A) → ((i : ℕ) → Q (f i)) → All Q (map f (numbers n k))
unfolding numbers
numbers_all Q zero k f h = tt
numbers_all Q (suc n) k f h = (h k, numbers_all Q n (suc k) f h)

pub below_all : {A : Type 0} (Q : A → Type 0) (n : ℕ) (f : ℕ → A) → ((i : ℕ) → Q (f i)) → All Q (below n f)
unfolding below
below_all Q n f h = numbers_all Q n 0 f h

-- an entry of two lists below n that are alike there
pub below_two : {A B : Type 0} (R : A → B → Type 0) (n : ℕ) (f : ℕ → A) (g : ℕ → B) (d : A) (e : B) → R d e → (i : ℕ) → R (f i) (g i) → R (get_or (below n f) i d) (get_or (below n g) i e)
below_two R n f g d e z i h = go (lt_or_le i n)
  where
    go : (i < n) ⊎ (n ≤ i) → R (get_or (below n f) i d) (get_or (below n g) i e)
    go (inl l) = subst (λ x. R x (get_or (below n g) i e)) (sym (get_or-below n f d i l)) (subst (R (f i)) (sym (get_or-below n g e i l)) h)
    go (inr l) = subst (λ x. R x (get_or (below n g) i e)) (sym (get_d_past n f d i l)) (subst (R d) (sym (get_d_past n g e i l)) z)

-- ---- loops

pub any_same : (n : ℕ) (f g : ℕ → Bool) → ((i : ℕ) → i < n → f i ≡ g i) → any_below n f ≡ any_below n g
unfolding any_below
any_same zero f g h = refl
any_same (suc n) f g h = ap₂ ◌||◌ (any_same n f g (λ i l. h i (omega arith))) (h n (omega arith))

pub any_none : (n : ℕ) (f : ℕ → Bool) → ((i : ℕ) → i < n → f i ≡ false) → any_below n f ≡ false
unfolding any_below
any_none zero f h = refl
any_none (suc n) f h = ap₂ ◌||◌ (any_none n f (λ i l. h i (omega arith))) (h n (omega arith))

pub union-same : (n : ℕ) (f g : ℕ → ℕ) → ((i : ℕ) → i < n → f i ≡ g i) → union_below n f ≡ union_below n g
unfolding union_below
union-same zero f g h = refl
union-same (suc n) f g h = ap₂ union (union-same n f g (λ i l. h i (omega arith))) (h n (omega arith))

pub union_in : (C : ℕ → Bool) (n : ℕ) (f : ℕ → ℕ) → ((i : ℕ) → i < n → Inside C (f i)) → Inside C (union_below n f)
unfolding union_below
union_in C zero f h = in_zero C
union_in C (suc n) f h = in_union C (union_in C n f (λ i l. h i (omega arith))) (h n (omega arith))

pub union-agree : (C : ℕ → Bool) (n : ℕ) (f g : ℕ → ℕ) → ((i : ℕ) → i < n → Agree C (f i) (g i)) → Agree C (union_below n f) (union_below n g)
unfolding union_below
union-agree C zero f g h = agree_refl C 0
union-agree C (suc n) f g h = agree-union C (union-agree C n f g (λ i l. h i (omega arith))) (h n (omega arith))

pub fold_two : {A : Type 0} (R : A → A → Type 0) (f g : ℕ → A → A) (n : ℕ) → ((i : ℕ) → i < n → (a b : A) → R a b → R (f i a) (g i b))
    → (a b : A) → R a b → R (fold_below n f a) (fold_below n g b)
unfolding fold_below
fold_two R f g zero h a b r = r
fold_two R f g (suc n) h a b r = h n (omega arith) (fold_below n f a) (fold_below n g b) (fold_two R f g n (λ i l. h i (omega arith)) a b r)

pub union_of-agree : (C : ℕ → Bool) (ss ts : List ℕ) → Twins C ss ts → Agree C (union_of (λ m. m) ss) (union_of (λ m. m) ts)
unfolding union_of
union_of-agree C [] [] h = agree_refl C 0
union_of-agree C [] (t ∷ ts) h = absurd h
union_of-agree C (s ∷ ss) [] h = absurd h
union_of-agree C (s ∷ ss) (t ∷ ts) h = agree-union C (agree_twin C h.0) (union_of-agree C ss ts h.1)

-- ---- closing: what starts inside stays inside, and what is alike stays alike

module _ (C : ℕ → Bool) where
  absorb_in : (s m : ℕ) → Weak C s → Inside C m → Inside C (absorb s m)
  unfolding absorb
  absorb_in s m w h = go w (which (disjoint s m))
    where
      go : Weak C s → (disjoint s m ≡ true) ⊎ (disjoint s m ≡ false) → Inside C (cond (disjoint s m) m (union m s))
      go (inl i) e = in_cond C (disjoint s m) h (in_union C h i)
      go (inr o) (inl e) = subst (λ (b : Bool). Inside C (cond b m (union m s))) (sym e) h
      go (inr o) (inr e) =
          let w = disjoint-false s m e in
          clash (h.at w.0 w.2) (not-true (C w.0) (o.at w.0 w.1))

  pass_in : (ss : List ℕ) (m : ℕ) → All (Weak C) ss → Inside C m → Inside C (pass ss m)
  unfolding pass
  pass_in [] m w h = h
  pass_in (s ∷ ss) m w h = pass_in ss (absorb s m) w.1 (absorb_in s m w.0 h)

  passes_in : (k : ℕ) (ss : List ℕ) (m : ℕ) → All (Weak C) ss → Inside C m → Inside C (passes k ss m)
  passes_in zero ss m w h = (unfold passes in h)
  passes_in (suc k) ss m w h = subst (Inside C) (sym (passes-next k ss m)) (passes_in k ss (pass ss m) w (pass_in ss m w h))

  pub close_in : (ss : List ℕ) (m : ℕ) → All (Weak C) ss → Inside C m → Inside C (close_of ss m)
  unfolding close_of
  close_in ss m w h = passes_in (length ss) ss m w h

  absorb-near : (s a b : ℕ) → Inside C s → Agree C a b → Agree C (absorb s a) (absorb s b)
  unfolding absorb
  absorb-near s a b i h = go (disjoint s a) (disjoint s b) (unfold disjoint in ap (λ (x : ℕ). eqb x 0) (meet-near C i h))
    where
      go : (x y : Bool) → x ≡ y → Agree C (cond x a (union a s)) (cond y b (union b s))
      go true true e = h
      go false false e = agree-union C h (agree_refl C s)
      go true false e = clash refl e
      go false true e = clash e refl

  absorb-far : (s a b : ℕ) → Outside C s → Agree C a b → Agree C (absorb s a) b
  unfolding absorb
  absorb-far s a b o h = go (disjoint s a)
    where
      go : (x : Bool) → Agree C (cond x a (union a s)) b
      go true = h
      go false = agree_frame C h o

  absorb-agree : (s t a b : ℕ) → Twin C s t → Agree C a b → Agree C (absorb s a) (absorb t b)
  absorb-agree s t a b (near i) h = absorb-near s a b i h
  absorb-agree s t a b (far o p) h = agree-sym C (absorb-far t b (absorb s a) p (agree-sym C (absorb-far s a b o h)))

  pass-agree : (ss ts : List ℕ) (a b : ℕ) → Twins C ss ts → Agree C a b → Agree C (pass ss a) (pass ts b)
  unfolding pass
  pass-agree [] [] a b w h = h
  pass-agree [] (t ∷ ts) a b w h = absurd w
  pass-agree (s ∷ ss) [] a b w h = absurd w
  pass-agree (s ∷ ss) (t ∷ ts) a b w h = pass-agree ss ts (absorb s a) (absorb t b) w.1 (absorb-agree s t a b w.0 h)

  passes-agree : (k : ℕ) (ss ts : List ℕ) (a b : ℕ) → Twins C ss ts → Agree C a b → Agree C (passes k ss a) (passes k ts b)
  passes-agree zero ss ts a b w h = (unfold passes in h)
  passes-agree (suc k) ss ts a b w h =
      subst (λ (x : ℕ). Agree C x (passes (suc k) ts b)) (sym (passes-next k ss a))
      (subst (Agree C (passes k ss (pass ss a))) (sym (passes-next k ts b)) (passes-agree k ss ts (pass ss a) (pass ts b) w (pass-agree ss ts a b w h)))

  pub close_agree : (ss ts : List ℕ) (a b : ℕ) → Twins C ss ts → Agree C a b → Agree C (close_of ss a) (close_of ts b)
  unfolding close_of
  close_agree ss ts a b w h =
      subst (λ (k : ℕ). Agree C (passes (length ss) ss a) (passes k ts b)) (twins-length C ss ts w) (passes-agree (length ss) ss ts a b w h)

pub close_out : (C : ℕ → Bool) (ss : List ℕ) (m : ℕ) → All (Weak C) ss → Outside C m → Outside C (close_of ss m)
close_out C ss m w h = close_in (outer C) ss m (all_then (Weak C) (Weak (outer C)) (λ s. weak_outer C) ss w) h

-- a set that does not reach across the circle's line is on a side of it: it is empty, or someone is in it
pub side_of : (C : ℕ → Bool) (s : ℕ) → Weak C s → Side C s
side_of C s (inr o) = outside o
side_of C s (inl i) = go (which (eqb s 0))
  where
    go : (eqb s 0 ≡ true) ⊎ (eqb s 0 ≡ false) → Side C s
    go (inl e) = outside (subst (Outside C) (sym (eqb-true s 0 e)) (in_zero (outer C)))
    go (inr e) = let w = member s (eqb-false s 0 e) in inside w.0 w.1 (i.at w.0 w.1) i
