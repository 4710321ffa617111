-- What `those` has found when some numbers of the set are still to come.
use mathlib.Core.Path.{◌≡◌, refl, sym, ap, ap₂, subst, ◌∙◌}
use mathlib.Core.Bool.{Bool, true, false, cond, ◌||◌, or-true, or-false, false≢true}
use Prim.Native.Nat.{ℕ, ◌<◌, ◌^◌}
use native.Mathlib.Nat.{lt_trans}
use native.Mathlib.Omega.{arith}
use lib.Dec.{eqb}
use borrow.Author.Tests.{eqb-true, eq-eqb}
use Rattle.sets.specs.paper.Sets.{has, one, union}
use Rattle.sets.proofs.SetLaws.{has-none, has-union, has_one, ext}

-- a number that is passed is not of the rest
turn_gone : (m r t : ℕ) → ((i : ℕ) → has m i ≡ (eqb t i || has r i)) → r < m → has r t ≡ false
turn_gone m r t h l = pick (has r t) refl
  where
    pick : (b : Bool) → has r t ≡ b → has r t ≡ false
    pick false e = e
    pick true e = absurd (let same : m ≡ r = ext m r (λ i. h i ∙ there i (eqb t i) refl) in omega arith)
      where
        there : (i : ℕ) (b : Bool) → eqb t i ≡ b → (eqb t i || has r i) ≡ has r i
        there i true k = ap (λ (x : Bool). x || has r i) k ∙ sym (ap (has r) (sym (eqb-true t i k)) ∙ e)
        there i false k = ap (λ (x : Bool). x || has r i) k

-- `post p b`: b is a possible answer of the test at p
pub record Found (post : ℕ → Bool → Type 0) (set left found : ℕ) : Type 0 where
  pub fits : left < 2 ^ 64
  pub part : (p : ℕ) → has left p ≡ true → has set p ≡ true
  pub outside : (p : ℕ) → has set p ≡ false → has found p ≡ false
  pub open_yet : (p : ℕ) → has left p ≡ true → has found p ≡ false
  pub tested : (p : ℕ) → has set p ≡ true → has left p ≡ false → post p (has found p)

pub found_none : (post : ℕ → Bool → Type 0) (set : ℕ) → set < 2 ^ 64 → Found post set set 0
found_none post set h = record {
  fits = h;
  part = λ p e. e;
  outside = λ p e. has-none p;
  open_yet = λ p e. has-none p;
  tested = λ p e n. absurd (false≢true (sym n ∙ e));
}

-- a turn of the loop: the number t of what was left is tested, r is left
pub found_more : (post : ℕ → Bool → Type 0) (set left found r t : ℕ) → Found post set left found → ((i : ℕ) → has left i ≡ (eqb t i || has r i)) → r < left → (b : Bool) → post t b
    → (more : ℕ) → ((p : ℕ) → has more p ≡ cond (eqb t p) b (has found p)) → Found post set r more
found_more post set left found r t known turn less b here more at = record {
  fits = lt_trans less known.fits;
  part = λ p e. known.part p (rest p e);
  outside = λ p e. outer p e (eqb t p) refl;
  open_yet = λ p e. open_at p e (eqb t p) refl;
  tested = λ p e n. tested_at p e n (eqb t p) refl;
}
  where
    rest : (p : ℕ) → has r p ≡ true → has left p ≡ true
    rest p e = turn p ∙ ap (λ (x : Bool). eqb t p || x) e ∙ or-true (eqb t p)

    first : (p : ℕ) → eqb t p ≡ true → has left p ≡ true
    first p e = turn p ∙ ap (λ (x : Bool). x || has r p) e

    outer : (p : ℕ) → has set p ≡ false → (d : Bool) → eqb t p ≡ d → has more p ≡ false
    outer p e true k = absurd (false≢true (sym e ∙ known.part p (first p k)))
    outer p e false k = at p ∙ ap (λ (x : Bool). cond x b (has found p)) k ∙ known.outside p e

    open_at : (p : ℕ) → has r p ≡ true → (d : Bool) → eqb t p ≡ d → has more p ≡ false
    open_at p e true k = absurd (false≢true (sym (turn_gone left r t turn less) ∙ ap (has r) (eqb-true t p k) ∙ e))
    open_at p e false k = at p ∙ ap (λ (x : Bool). cond x b (has found p)) k ∙ known.open_yet p (rest p e)

    tested_at : (p : ℕ) → has set p ≡ true → has r p ≡ false → (d : Bool) → eqb t p ≡ d → post p (has more p)
    tested_at p e n true k =
        subst (post p) (sym (at p ∙ ap (λ (x : Bool). cond x b (has found p)) k)) (subst (λ (q : ℕ). post q b) (eqb-true t p k) here)
    tested_at p e n false k =
        subst (post p) (sym (at p ∙ ap (λ (x : Bool). cond x b (has found p)) k))
        (known.tested p e (turn p ∙ ap (λ (x : Bool). x || has r p) k ∙ n))

-- t joins what was found, or not
pub joined : (found t p : ℕ) → has (union found (one t)) p ≡ cond (eqb t p) true (has found p)
joined found t p = has-union found (one t) p ∙ ap (λ (x : Bool). has found p || x) (has_one t p) ∙ pick (eqb t p)
  where
    pick : (b : Bool) → (has found p || b) ≡ cond b true (has found p)
    pick true = or-true (has found p)
    pick false = or-false (has found p)

pub passed : (left found t : ℕ) → has left t ≡ true → ((p : ℕ) → has left p ≡ true → has found p ≡ false) → (p : ℕ) → has found p ≡ cond (eqb t p) false (has found p)
passed left found t e open_yet p = pick (eqb t p) refl
  where
    pick : (b : Bool) → eqb t p ≡ b → has found p ≡ cond (eqb t p) false (has found p)
    pick true k = ap (has found) (sym (eqb-true t p k)) ∙ open_yet t e ∙ sym (ap (λ (x : Bool). cond x false (has found p)) k)
    pick false k = sym (ap (λ (x : Bool). cond x false (has found p)) k)

pub first_has : (left r t : ℕ) → ((i : ℕ) → has left i ≡ (eqb t i || has r i)) → has left t ≡ true
first_has left r t turn = turn t ∙ ap (λ (x : Bool). x || has r t) (eq-eqb t t refl)
