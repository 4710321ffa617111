-- What a test of the numbers below n finds, read off sets of numbers.
use mathlib.Core.Path.{◌≡◌, refl, sym, ap, ap₂, ◌∙◌}
use mathlib.Core.Bool.{Bool, true, false, ◌&&◌, ◌||◌, not, false≢true}
use mathlib.Core.Logic.{◌⊎◌, inl, inr, ⊎_elim}
use Prim.Native.Nat.{ℕ, zero, suc, ◌/◌, ◌^◌, ◌≤◌, ◌<◌}
use native.Mathlib.Omega.{arith}
use lib.Dec.{ltb}
use borrow.Author.Tests.{ltb-true, lt-ltb}
use Rattle.sets.specs.paper.Sets.{has, minus, disjoint, meets, members, any_below, union_of}
use Rattle.sets.proofs.SetLaws.{has-suc, has-minus, antisym, empty, disjoint-false, disjoint-true, and_parts}
use Rattle.sets.proofs.BelowLaws.{any_false}
use Rattle.sets.proofs.Local.{which, clash, any_none}
use Rattle.sets.proofs.TurnLaws.{union-has, has-union_of}

-- two answers, each yes where the other is
pub same_answer : (x y : Bool) → (x ≡ true → y ≡ true) → (y ≡ true → x ≡ true) → x ≡ y
same_answer true y f g = sym (f refl)
same_answer false true f g = g refl
same_answer false false f g = refl

pub not_so : (b : Bool) → (b ≡ true → ⊥) → b ≡ false
not_so true h = absurd (h refl)
not_so false h = refl

pub any_in : (n : ℕ) (f : ℕ → Bool) (i : ℕ) → i < n → f i ≡ true → any_below n f ≡ true
any_in n f i l e = ⊎_elim (λ h. h) (λ h. clash e (any_false n f h i l)) (which (any_below n f))

pub any_find : (n : ℕ) (f : ℕ → Bool) → any_below n f ≡ true → (i : ℕ) × (i < n) × (f i ≡ true)
unfolding any_below
any_find zero f e = absurd (false≢true e)
any_find (suc n) f e = pick (which (any_below n f)) (any_find n f)
  where
    pick : (any_below n f ≡ true) ⊎ (any_below n f ≡ false) → (any_below n f ≡ true → (i : ℕ) × (i < n) × (f i ≡ true)) → (i : ℕ) × (i < suc n) × (f i ≡ true)
    pick (inl h) ih =
        let r = ih h in
        let l = r.1 in
        (r.0, omega arith, r.2)
    pick (inr h) ih = (n, omega arith, sym (ap (λ (b : Bool). b || f n) h) ∙ e)

-- both of two sets, and both a number below n that passes
both : (n i : ℕ) (g : ℕ → Bool) (x y : Bool) → (x && y) ≡ (ltb i n && g i) → x ≡ true → y ≡ true → (i < n) × (g i ≡ true)
both n i g x y h e k =
    let z = and_parts (ltb i n) (g i) (sym h ∙ ap₂ ◌&&◌ e k) in
    (ltb-true i n z.0, z.1)

of_both : (n i : ℕ) (g : ℕ → Bool) (x y : Bool) → (x && y) ≡ (ltb i n && g i) → i < n → g i ≡ true → (x ≡ true) × (y ≡ true)
of_both n i g x y h l e = and_parts x y (h ∙ ap₂ ◌&&◌ (lt-ltb i n l) e)

-- two sets meet in a number that passes
pub meets_any : (r s n : ℕ) (g : ℕ → Bool) → ((d : ℕ) → (has r d && has s d) ≡ (ltb d n && g d)) → meets r s ≡ any_below n g
unfolding meets
meets_any r s n g h = pick (disjoint r s) refl
  where
    none : disjoint r s ≡ true → (i : ℕ) → i < n → g i ≡ true → ⊥
    none e i l k = let z = of_both n i g (has r i) (has s i) (h i) l k in disjoint-true r s e i z.0 z.1

    pick : (b : Bool) → disjoint r s ≡ b → not (disjoint r s) ≡ any_below n g
    pick true e = ap not e ∙ sym (any_none n g (λ i l. not_so (g i) (none e i l)))
    pick false e =
        let w = disjoint-false r s e in
        let z = both n w.0 g (has r w.0) (has s w.0) (h w.0) w.1 w.2 in
        ap not e ∙ sym (any_in n g w.0 z.0 z.1)

-- who is of the union over a set has a number that passes
pub union_any : (f : ℕ → ℕ) (m q n : ℕ) (g : ℕ → Bool) → m < 2 ^ 64 → ((d : ℕ) → (has m d && has (f d) q) ≡ (ltb d n && g d))
    → has (union_of f (members m)) q ≡ any_below n g
union_any f m q n g l h = same_answer (has (union_of f (members m)) q) (any_below n g) found listed
  where
    found : has (union_of f (members m)) q ≡ true → any_below n g ≡ true
    found e =
        let w = union-has f m q l e in
        let z = both n w.0 g (has m w.0) (has (f w.0) q) (h w.0) w.1 w.2 in
        any_in n g w.0 z.0 z.1

    listed : any_below n g ≡ true → has (union_of f (members m)) q ≡ true
    listed e =
        let w = any_find n g e in
        let z = of_both n w.0 g (has m w.0) (has (f w.0) q) (h w.0) w.1 w.2 in
        has-union_of f m w.0 q l z.0 z.1

-- unions over a set of what is the same for each of its numbers
pub union-members : (f g : ℕ → ℕ) (m : ℕ) → m < 2 ^ 64 → ((i : ℕ) → has m i ≡ true → f i ≡ g i) → union_of f (members m) ≡ union_of g (members m)
union-members f g m l h = antisym (union_of f (members m)) (union_of g (members m)) (record { at = part f g h }) (record { at = part g f (λ i e. sym (h i e)) })
  where
    part : (f g : ℕ → ℕ) → ((i : ℕ) → has m i ≡ true → f i ≡ g i) → (q : ℕ) → has (union_of f (members m)) q ≡ true → has (union_of g (members m)) q ≡ true
    part f g h q e =
        let w = union-has f m q l e in
        has-union_of g m w.0 q l w.1 (sym (ap (λ (x : ℕ). has x q) (h w.0 w.1)) ∙ w.2)

-- ---- sets of few numbers

-- nothing from k on
pub set-low : (k m : ℕ) → ((p : ℕ) → k ≤ p → has m p ≡ false) → m < 2 ^ k
set-low zero m h = let e = empty m (λ p z. clash z (h p (omega arith))) in omega arith
set-low (suc k) m h = let l = set-low k (m / 2) (λ p l. sym (has-suc m p) ∙ h (suc p) (omega arith)) in omega arith

pub few-low : (n m : ℕ) → n ≤ 64 → ((c : ℕ) → has m c ≡ true → c < n) → m < 2 ^ 64
few-low n m l h = set-low 64 m (λ p k. not_so (has m p) (λ e. let z = h p e in omega arith))

-- a set without those of it that pass
pub minus_passing : (a s r : ℕ) (g : ℕ → Bool) → r ≡ minus a s → ((c : ℕ) → has s c ≡ (has a c && g c)) → (c : ℕ) → has r c ≡ (has a c && not (g c))
minus_passing a s r g e h c = ap (λ (m : ℕ). has m c) e ∙ has-minus a s c ∙ ap (λ (b : Bool). has a c && not b) (h c) ∙ once (has a c) (g c)
  where
    once : (x y : Bool) → (x && not (x && y)) ≡ (x && not y)
    once true y = refl
    once false y = refl
