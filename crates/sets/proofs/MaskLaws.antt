-- A mask built by a test of each number.
use Prim.Native.Nat.{ℕ, zero, suc, ◌+◌, ◌≤◌, ◌<◌}
use mathlib.Core.Path.{◌≡◌, refl, sym, ap, ap₂, ◌∙◌}
use mathlib.Core.Bool.{Bool, true, false, ◌&&◌, ◌||◌, or-false}
use mathlib.Core.Logic.{⊎_elim}
use native.Mathlib.Nat.{not-suc-le-zero, le_of_suc-le-suc, eq-or-lt_of_le}
use native.Mathlib.Numerals.{add-one}
use native.Mathlib.Omega.{arith}
use lib.Dec.{ltb}
use borrow.Author.Tests.{eq-eqb, ne_eqb, lt-ltb, le-ltb}
use Rattle.sets.specs.paper.Sets.{has, one, union, only, union_below}
use Rattle.sets.proofs.UnionLaws.{joined_if, left_if}
use Rattle.sets.proofs.SetLaws.{has-union, has-none, has_one, lt_or_le}

module _ (b : ℕ → Bool) where
  abbrev pub built : ℕ → ℕ
  built n = union_below n (λ f. only (b f) (one f))

  pub built_next : (n : ℕ) → built (n + 1) ≡ union (built n) (only (b n) (one n))
  unfolding union_below
  built_next n = ap (λ (k : ℕ). built k) (add-one n)

  -- the two turns of a loop: its number comes in, or stays out
  module _ (n : ℕ) {m t : ℕ} (e : m ≡ built n) where
    pub built_in : t ≡ union m (one n) → b n ≡ true → t ≡ built (n + 1)
    built_in h y = h ∙ ap (λ (x : ℕ). union x (one n)) e ∙ joined_if (built n) (one n) (b n) y ∙ sym (built_next n)

    pub built_out : t ≡ m → b n ≡ false → t ≡ built (n + 1)
    built_out h y = h ∙ e ∙ left_if (built n) (one n) (b n) y ∙ sym (built_next n)

  -- a number other than the one tested
  other : (n p : ℕ) → (n ≡ p → ⊥) → has (only (b n) (one n)) p ≡ false
  other n p h = pick (b n)
    where
      pick : (x : Bool) → has (only x (one n)) p ≡ false
      pick true = has_one n p ∙ ne_eqb n p h
      pick false = has-none p

  itself : (n : ℕ) → has (only (b n) (one n)) n ≡ b n
  itself n = pick (b n)
    where
      pick : (x : Bool) → has (only x (one n)) n ≡ x
      pick true = has_one n n ∙ eq-eqb n n refl
      pick false = has-none n

  past : (n p : ℕ) → n ≤ p → has (built n) p ≡ false
  unfolding union_below
  past zero p h = has-none p
  past (suc n) p h =
      has-union (built n) (only (b n) (one n)) p ∙ ap₂ ◌||◌ (past n p (omega arith)) (other n p (λ e. absurd (omega arith)))

  pub has_built : (n p : ℕ) → p < n → has (built n) p ≡ b p
  unfolding union_below
  has_built zero p h = absurd (not-suc-le-zero h)
  has_built (suc n) p h =
      has-union (built n) (only (b n) (one n)) p
      ∙ ⊎_elim (λ e. ap (λ (q : ℕ). has (built n) q || has (only (b n) (one n)) q) e ∙ ap₂ ◌||◌ (past n n (omega arith)) (itself n) ∙ ap b (sym e))
      (λ l. ap₂ ◌||◌ (has_built n p l) (other n p (λ e. absurd (omega arith))) ∙ or-false (b p))
      (eq-or-lt_of_le (le_of_suc-le-suc h))

  pub built_has : (n p : ℕ) → has (built n) p ≡ (ltb p n && b p)
  built_has n p = ⊎_elim (λ l. has_built n p l ∙ sym (ap (λ (x : Bool). x && b p) (lt-ltb p n l))) (λ l. past n p l ∙ sym (ap (λ (x : Bool). x && b p) (le-ltb p n l))) (lt_or_le p n)
