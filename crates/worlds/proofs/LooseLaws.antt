-- Step 2 by loops over masks: to whom edges lead, which sets are at discretion, and the classes that pass a test, each once.
use mathlib.Core.Path.{◌≡◌, refl, sym, ap, ap₂, ◌∙◌, subst}
use mathlib.Core.Bool.{Bool, true, false, ◌&&◌, ◌||◌, not, cond, true≢false}
use mathlib.Core.Logic.{◌⊎◌, inl, inr, ⊎_elim}
use mathlib.Core.List.{List, [], ◌∷◌, map}
use Prim.Native.Nat.{ℕ, zero, suc, ◌-◌, ◌/◌, ◌%◌, ◌^◌, ◌≤◌, ◌<◌, zero-le}
use native.Mathlib.Nat.{zero-add, lt_trans}
use native.Mathlib.Omega.{arith}
use lib.Bits.{bit_and, and_le_l}
use lib.Count.{ones_in, ones}
use lib.Dec.{eqb, ltb}
use borrow.Author.Tests.{eqb-true, eqb-false, eq-eqb, lt-ltb, le-ltb}
use Rattle.sets.specs.paper.Sets.{has, one, union, meet, minus, only, subset, size, union_of, all_of, members, lowest, close_of}
use Rattle.sets.proofs.SetLaws.{Within, has-none, has_one, has_meet, has-minus, ext, within-refl, in_union_l, in_union_r, of_union, of_minus, subset-true, within-subset, and_parts, and-not, ones-size}
use Rattle.sets.proofs.Closing.{Closed, close_same, in_one}
use Rattle.sets.proofs.Local.{which, clash}
use Rattle.sets.proofs.UnionLaws.{union_assoc, union-none}
use Rattle.worlds.specs.code.Over.{entry}
use Rattle.worlds.specs.code.Discretion.{near, clique_by, loose_by, Heads}
use Rattle.sets.proofs.TurnLaws.{members-next, members-none}

-- ---- a class of one person is never at discretion

ones_none : (k : ℕ) → ones_in k 0 ≡ 0
unfolding ones_in
ones_none zero = refl
ones_none (suc k) = zero-add (ones_in k 0) ∙ ones_none k

ones-one : (k p : ℕ) → ones_in k (2 ^ p) ≤ 1
unfolding ones_in
ones-one zero p = zero-le
ones-one (suc k) zero = let z = ones_none k in omega arith
ones-one (suc k) (suc p) =
    let half : 2 ^ suc p / 2 ≡ 2 ^ p = omega arith in
    let low : 2 ^ suc p % 2 ≡ 0 = omega arith in
    let h : ones_in k (2 ^ suc p / 2) ≤ 1 = subst (λ (x : ℕ). ones_in k x ≤ 1) (sym half) (ones-one k p) in
    omega arith

pub size-one : (p : ℕ) → size (one p) ≤ 1
unfolding size one
size-one p = ones-one 64 p

pub one_tight : (lead : ℕ → ℕ) (p : ℕ) → loose_by lead (one p) ≡ false
unfolding loose_by
one_tight lead p = ap (λ (b : Bool). b && not (clique_by lead (one p))) (le-ltb 2 (size (one p)) (let h = size-one p in omega arith))

-- more than two persons that are no clique, as the code tests it
pub loose-many : (lead : ℕ → ℕ) (m : ℕ) (b : Bool) → m < 2 ^ 64 → 2 < ones m → b ≡ clique_by lead m → not b ≡ loose_by lead m
unfolding loose_by
loose-many lead m b f l e = ap not e ∙ sym (ap (λ (x : Bool). x && not (clique_by lead m)) (ap (ltb 2) (sym (ones-size m f)) ∙ lt-ltb 2 (ones m) l))

pub loose-few : (lead : ℕ → ℕ) (m : ℕ) → m < 2 ^ 64 → ones m ≤ 2 → false ≡ loose_by lead m
unfolding loose_by
loose-few lead m f l = sym (ap (λ (x : Bool). x && not (clique_by lead m)) (ap (ltb 2) (sym (ones-size m f)) ∙ le-ltb 2 (ones m) l))

-- whom no set holds is closed
pub close_alone : (ss : List ℕ) (persons p : ℕ) → all_of (λ s. subset s persons) ss ≡ true → has persons p ≡ false → close_of ss (one p) ≡ one p
unfolding all_of
close_alone ss persons p e h = close_same ss (one p) (go ss e)
  where
    go : (ss : List ℕ) → all_of (λ s. subset s persons) ss ≡ true → Closed ss (one p)
    go [] e = tt
    go (s ∷ ss) e =
        let t = and_parts (subset s persons) (all_of (λ s. subset s persons) ss) e in
        (λ q x y. clash ((subset-true s persons t.0).at q x) (ap (has persons) (sym (eqb-true p q (sym (has_one p q) ∙ y))) ∙ h), go ss t.1)

-- ---- a loop's turn: t of m, and r is left

-- what is left of a set is no greater number
minus_le : (a b : ℕ) → a < 2 ^ 64 → minus a b ≤ a
minus_le a b h =
    let both = meet_le a b in
    subst (λ (x : ℕ). x ≤ a) (and-not 64 a (meet a b) h (omega arith) ∙ ext _ _ (λ p. has-minus a (meet a b) p ∙ ap (λ (x : Bool). has a p && not x) (has_meet a b p)
    ∙ same (has a p) (has b p) ∙ sym (has-minus a b p))) (and_le_l a ((2 ^ 64 - 1) - meet a b))
  where
    same : (x y : Bool) → (x && not (x && y)) ≡ (x && not y)
    same true y = refl
    same false y = refl

    meet_le : (a b : ℕ) → meet a b ≤ a
    meet_le a b = (unfold meet in and_le_l a b)

pub left_less : (m r class : ℕ) → m < 2 ^ 64 → r < m → minus r class < m
left_less m r class b l = let h = minus_le r class (lt_trans l b) in omega arith

-- to whom the edges lead
near_next : (pairs : List ℕ) (m r t p : ℕ) → members m ≡ t ∷ members r → near pairs m p ≡ union (only (has (entry pairs t) p) (entry pairs t)) (near pairs r p)
unfolding near union_of
near_next pairs m r t p e = ap (union_of (λ e. only (has (entry pairs e) p) (entry pairs e))) e

pub near-more : (pairs lead more : List ℕ) (m r t p : ℕ) → members m ≡ t ∷ members r → entry more p ≡ cond (has (entry pairs t) p) (union (entry lead p) (entry pairs t)) (entry lead p)
    → union (entry more p) (near pairs r p) ≡ union (entry lead p) (near pairs m p)
near-more pairs lead more m r t p e g =
    ap (λ (x : ℕ). union x (near pairs r p)) (g ∙ joined (has (entry pairs t) p) (entry lead p) (entry pairs t))
    ∙ union_assoc (entry lead p) (only (has (entry pairs t) p) (entry pairs t)) (near pairs r p)
    ∙ ap (union (entry lead p)) (sym (near_next pairs m r t p e))
  where
    joined : (b : Bool) (x y : ℕ) → cond b (union x y) x ≡ union x (only b y)
    joined true x y = refl
    joined false x y = sym (union-none x)

pub near_end : (pairs : List ℕ) (m p x : ℕ) → m ≡ 0 → union x (near pairs m p) ≡ x
unfolding near union_of
near_end pairs m p x e = ap (λ (l : List ℕ). union x (union_of (λ e. only (has (entry pairs e) p) (entry pairs e)) l)) (members-none m e) ∙ union-none x

-- a test of each
pub all_next : (f : ℕ → Bool) (m r t : ℕ) → members m ≡ t ∷ members r → all_of f (members m) ≡ (f t && all_of f (members r))
unfolding all_of
all_next f m r t e = ap (all_of f) e

pub all_fails : (f : ℕ → Bool) (m t : ℕ) → m < 2 ^ 64 → (m ≡ 0 → ⊥) → t ≡ lowest m → f t ≡ false → all_of f (members m) ≡ false
unfolding all_of
all_fails f m t b n e k = ap (all_of f) (members-next m b n) ∙ ap (λ (x : Bool). x && all_of f (members (bit_and m (m - 1)))) (ap f (sym e) ∙ k)

pub all_none : (f : ℕ → Bool) (m : ℕ) → m ≡ 0 → all_of f (members m) ≡ true
unfolding all_of
all_none f m e = ap (all_of f) (members-none m e)

-- ---- the classes that pass a test

-- everybody in a class has it
abbrev pub Shared : ℕ → (ℕ → ℕ) → Type 0
Shared persons class = (p q : ℕ) → has persons p ≡ true → has (class p) q ≡ true → (has persons q ≡ true) × (class q ≡ class p)

-- those found while m are left
pub record Found (test : ℕ → Bool) (persons : ℕ) (class : ℕ → ℕ) (m found : ℕ) (parts : List ℕ) : Type 0 where
  pub few : m < 2 ^ 64
  pub inside : Within m persons
  pub sound : (p : ℕ) → has found p ≡ true → (has persons p ≡ true) × (entry parts p ≡ class p) × (test (class p) ≡ true)
  pub complete : Shared persons class
      → (p : ℕ) → has persons p ≡ true → has m p ≡ false → test (class p) ≡ true → (h : ℕ) × (has found h ≡ true) × (class h ≡ class p)

pub found_none : (test : ℕ → Bool) (persons : ℕ) (class : ℕ → ℕ) (parts : List ℕ) → persons < 2 ^ 64 → Found test persons class persons 0 parts
found_none test persons class parts b = record {
  few = b;
  inside = within-refl persons;
  sound = λ p h. clash h (has-none p);
  complete = λ s p x y. clash x y;
}

pub found_all : (test : ℕ → Bool) (persons : ℕ) (class : ℕ → ℕ) (m found : ℕ) (parts : List ℕ) → m ≡ 0 → Found test persons class m found parts
    → Heads test persons class found parts
found_all test persons class m found parts z f = record {
  sound = f.sound;
  complete = λ s p x y.
      let r = f.complete s p x (ap (λ (k : ℕ). has k p) z ∙ has-none p) y in
      (r.0, r.1, (f.sound r.0 r.1).1 ∙ r.2);
}

-- the same by other names
pub found_as : {test : ℕ → Bool} {persons : ℕ} {class : ℕ → ℕ} {m n found more : ℕ} {parts last : List ℕ} → m ≡ n → found ≡ more → parts ≡ last
    → Found test persons class n more last → Found test persons class m found parts
found_as {test} {persons} {class} {m} {n} {found} {more} {parts} {last} a b c f =
    subst (λ (x : ℕ). Found test persons class x found parts) (sym a)
    (subst (λ (x : ℕ). Found test persons class n x parts) (sym b) (subst (λ (l : List ℕ). Found test persons class n more l) (sym c) f))

module _ (test : ℕ → Bool) (persons : ℕ) (class : ℕ → ℕ) (m r t found : ℕ) (parts : List ℕ) (turn : (i : ℕ) → has m i ≡ (eqb t i || has r i)) (less : r < m)
    (f : Found test persons class m found parts) where
  -- whoever is no longer left was not before, is t, or is of its class
  gone : (p : ℕ) → has (minus r (class t)) p ≡ false → (has m p ≡ false) ⊎ ((t ≡ p) ⊎ (has (class t) p ≡ true))
  gone p e = pick (has (class t) p) (eqb t p) (has r p) refl refl refl (sym (has-minus r (class t) p) ∙ e)
    where
      pick : (x y z : Bool) → has (class t) p ≡ x → eqb t p ≡ y → has r p ≡ z → (has r p && not (has (class t) p)) ≡ false
          → (has m p ≡ false) ⊎ ((t ≡ p) ⊎ (has (class t) p ≡ true))
      pick true y z a b c d = inr (inr a)
      pick false true z a b c d = inr (inl (eqb-true t p b))
      pick false false true a b c d = absurd (true≢false (sym (ap₂ (λ (u v : Bool). u && not v) c a) ∙ d))
      pick false false false a b c d = inl (turn p ∙ ap₂ ◌||◌ b c)

  here : has persons t ≡ true
  here = f.inside.at t (turn t ∙ ap (λ (b : Bool). b || has r t) (eq-eqb t t refl))

  left-inside : Within (minus r (class t)) persons
  left-inside = record { at = λ p h. f.inside.at p (turn p ∙ after (eqb t p) (of_minus r (class t) p h).0) }
    where
      after : (x : Bool) {y : Bool} → y ≡ true → (x || y) ≡ true
      after true e = refl
      after false e = e

  -- the class of whoever is gone just now
  same : Shared persons class → (p : ℕ) → (t ≡ p) ⊎ (has (class t) p ≡ true) → class t ≡ class p
  same s p w = ⊎_elim (λ e. ap class e) (λ h. sym (s t p here h).1) w

  pub found_in : (last : List ℕ) → test (class t) ≡ true → entry last t ≡ class t → ((p : ℕ) → (p ≡ t → ⊥) → entry last p ≡ entry parts p)
      → Found test persons class (minus r (class t)) (union found (one t)) last
  found_in last ok put kept = record {
    few = lt_trans (left_less m r (class t) f.few less) f.few;
    inside = left-inside;
    sound = λ p h. pick p (which (eqb t p)) h;
    complete = λ s p x y z. ⊎_elim
        (λ e. let w = f.complete s p x e z in (w.0, (in_union_l found (one t)).at w.0 w.1, w.2))
        (λ w. (t, (in_union_r found (one t)).at t (in_one t), same s p w)) (gone p y);
  }
    where
      pick : (p : ℕ) → (eqb t p ≡ true) ⊎ (eqb t p ≡ false) → has (union found (one t)) p ≡ true
          → (has persons p ≡ true) × (entry last p ≡ class p) × (test (class p) ≡ true)
      pick p (inl e) h =
          subst (λ (p : ℕ). (has persons p ≡ true) × (entry last p ≡ class p) × (test (class p) ≡ true)) (eqb-true t p e) (here, put, ok)
      pick p (inr e) h =
          let w = f.sound p (⊎_elim (λ x. x) (λ x. clash (sym (has_one t p) ∙ x) e) (of_union found (one t) p h)) in
          (w.0, kept p (λ z. eqb-false t p e (sym z)) ∙ w.1, w.2)

  pub found_out : test (class t) ≡ false → Found test persons class (minus r (class t)) found parts
  found_out fails = record {
    few = lt_trans (left_less m r (class t) f.few less) f.few;
    inside = left-inside;
    sound = f.sound;
    complete = λ s p x y z. ⊎_elim (λ e. f.complete s p x e z) (λ w. clash z (ap test (sym (same s p w)) ∙ fails)) (gone p y);
  }

-- ---- the components by the pairs of some edges

-- the pairs lie within their union
pub pairs-inside : (pairs : List ℕ) (persons : ℕ) (es : List ℕ) → Within (union_of (entry pairs) es) persons → all_of (λ s. subset s persons) (map (entry pairs) es) ≡ true
unfolding union_of all_of
pairs-inside pairs persons [] w = refl
pairs-inside pairs persons (e ∷ es) w =
    let u = union_of (entry pairs) es in
    ap₂ ◌&&◌ (within-subset (entry pairs e) persons (record { at = λ p h. w.at p ((in_union_l (entry pairs e) u).at p h) }))
    (pairs-inside pairs persons es (record { at = λ p h. w.at p ((in_union_r (entry pairs e) u).at p h) }))
