-- A listed unit whose persons of kind 0 are all excluded, with none of kind 2, has pool 0 and no mark.
use mathlib.Core.Path.{◌≡◌, refl, sym, ap, ◌∙◌}
use mathlib.Core.Bool.{Bool, true, false, ◌&&◌, not, and-false}
use mathlib.Core.List.{List}
use Prim.Native.Nat.{ℕ, ◌<◌}
use lib.ListN.{length, get_or}
use lib.Dec.{eqb}
use borrow.Author.Tests.{eqb-true, eq-eqb}
use Rattle.sets.specs.paper.Sets.{has, only, numbers}
use Rattle.sets.proofs.Local.{clash}
use Rattle.sets.proofs.SumLaws.{sum_where, sum_none}
use Rattle.billing.specs.paper.Pools.{UnitPool}
use Rattle.billing.proofs.LinePlaces.{number_all}
use Rattle.promises.specs.Partitioned.{person_at, kind_at, role_at}
use Rattle.promises.specs.Pooled.{unit_at, pooled_at, Pooled}
use Rattle.promises.specs.NoHousehold.{DrawsNoService}

same_unit : (u : UnitPool) (block cents : ℕ) (marked : Bool) → u.block ≡ block → u.cents ≡ cents → u.marked ≡ marked
    → u ≡ record { block = block; cents = cents; marked = marked }
same_unit u block cents marked e f g = rw (sym e, sym f, sym g) refl

-- nobody of kind 0 but excluded ones: not pooled
not-pooled : (s : List ℕ) (k : ℕ) → (kind_at s k ≡ 0 → role_at s k ≡ 2) → pooled_at s k ≡ false
unfolding pooled_at kind_at role_at
not-pooled s k h = pick (eqb (kind_at s k) 0) (eqb (role_at s k) 2) refl refl
  where
    pick : (x y : Bool) → eqb (kind_at s k) 0 ≡ x → eqb (role_at s k) 2 ≡ y → (x && not y) ≡ false
    pick true true e f = refl
    pick true false e f = absurd (clash (eq-eqb (role_at s k) 2 (h (eqb-true (kind_at s k) 0 e))) f)
    pick false y e f = refl

module _ {amounts s : List ℕ} {n : ℕ} {us : List UnitPool} {left : ℕ} (P : Pooled amounts s n us left) (b : ℕ) (draws : DrawsNoService s n b) (i : ℕ) (l : i < length us)
    (is : (unit_at us i).block ≡ b) where
  abbrev inside : ℕ → Bool
  inside k = has (unit_at us i).block (person_at s k)

  its : (k : ℕ) → k < n → inside k ≡ true → (kind_at s k ≡ 0 → role_at s k ≡ 2) × (kind_at s k ≡ 2 → ⊥)
  its k m h = draws k m (ap (λ (b : ℕ). has b (person_at s k)) (sym is) ∙ h)

  unpooled : (k : ℕ) → k < n → (pooled_at s k && inside k) ≡ false
  unpooled k m = go (inside k) refl
    where
      go : (x : Bool) → inside k ≡ x → (pooled_at s k && x) ≡ false
      go true h = ap (λ (p : Bool). p && true) (not-pooled s k (its k m h).0)
      go false h = and-false (pooled_at s k)

  no-cents : (unit_at us i).cents ≡ 0
  no-cents =
      P.pool i l ∙ sum_where _ (λ k. 0) (numbers n 0) (number_all _ n (λ k m. ap (λ (x : Bool). only x (get_or amounts k 0)) (unpooled k m)))
      ∙ sum_none (numbers n 0)

  no-mark : (unit_at us i).marked ≡ false
  no-mark = pick (unit_at us i).marked refl
    where
      pick : (x : Bool) → (unit_at us i).marked ≡ x → x ≡ false
      pick true e = let k = (P.mark i l).0 e in absurd ((its k.0 k.1 k.2).1 k.3)
      pick false e = refl

  pub idle_unit : unit_at us i ≡ record { block = b; cents = 0; marked = false }
  idle_unit = same_unit (unit_at us i) b 0 false is no-cents no-mark
