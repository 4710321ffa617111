-- Lines that are partitioned: a unit is no household exactly if its persons of kind 0 are all excluded and none has kind 2, and so exactly if
-- everybody in it is of kind 0 and excluded.
use mathlib.Core.Path.{◌≡◌, refl, sym, ap, ap₂, ◌∙◌, subst}
use mathlib.Core.Bool.{Bool, true, false, ◌&&◌, ◌||◌, not}
use mathlib.Core.List.{List}
use mathlib.Core.Logic.{◌⊎◌, inl, inr, ⊎_elim, ◌↔◌, ◌≢◌}
use Prim.Native.Nat.{ℕ, ◌<◌}
use native.Mathlib.Omega.{arith}
use lib.Dec.{eqb}
use borrow.Author.Tests.{eqb-true, eqb-false, eq-eqb}
use Rattle.sets.specs.paper.Sets.{has}
use Rattle.sets.proofs.SetLaws.{and_parts}
use Rattle.sets.proofs.Local.{clash}
use Rattle.report.specs.paper.LineAt.{lines_from}
use Rattle.billing.specs.paper.Households.{makes_household, household}
use Rattle.billing.proofs.LinePlaces.{any_line, line_any}
use Rattle.promises.specs.Partitioned.{person_at, kind_at, role_at, block_at, Partitioned, InAll}
use Rattle.promises.specs.NoHousehold.{IsUnit, DrawsNoService, EverybodyExcluded}
use Rattle.promises.proofs.PartedLines.{once, block-persons}

-- who makes a block a household, by kind and role
makes_by : (kind role : ℕ) → (kind ≡ 2) ⊎ ((kind ≡ 0) × (role ≢ 2)) → makes_household kind role ≡ true
makes_by kind role =
    ⊎_elim (λ e. ap (λ (k : ℕ). makes_household k role) e) (λ m. ap (λ (k : ℕ). makes_household k role) m.0 ∙ other (eqb role 2) refl m.1)
  where
    other : (x : Bool) → eqb role 2 ≡ x → role ≢ 2 → not x ≡ true
    other true e n = absurd (n (eqb-true role 2 e))
    other false e n = refl

makes_of : (kind role : ℕ) → makes_household kind role ≡ true → (kind ≡ 2) ⊎ ((kind ≡ 0) × (role ≢ 2))
makes_of kind role = go (eqb kind 2) (eqb kind 0) (eqb role 2) refl refl refl
  where
    go : (x y z : Bool) → eqb kind 2 ≡ x → eqb kind 0 ≡ y → eqb role 2 ≡ z → (x || (y && not z)) ≡ true → (kind ≡ 2) ⊎ ((kind ≡ 0) × (role ≢ 2))
    go true y z e f g h = inl (eqb-true kind 2 e)
    go false true true e f g h = absurd (clash h refl)
    go false true false e f g h = inr (eqb-true kind 0 f, eqb-false role 2 g)
    go false false z e f g h = absurd (clash h refl)

module _ {roster : ℕ} (s : List ℕ) (n : ℕ) (parts : Partitioned InAll roster s n) (b : ℕ) (unit : IsUnit s n b) where
  -- a line's person is in the unit exactly if the line has it as block
  its_persons : (k : ℕ) → k < n → (has b (person_at s k) ≡ true) ↔ (block_at s k ≡ b)
  its_persons k l =
      subst (λ (b : ℕ). (has b (person_at s k) ≡ true) ↔ (block_at s k ≡ b)) unit.2
      (block-persons parts unit.0 k unit.1 l (subst (λ (b : ℕ). b ≢ 0) (sym unit.2) unit.3))

  abbrev Makes : ℕ → Type 0
  Makes k = (kind_at s k ≡ 2) ⊎ ((kind_at s k ≡ 0) × (role_at s k ≢ 2))

  -- one who makes it a household
  some : (k : ℕ) → k < n → has b (person_at s k) ≡ true → Makes k → household (lines_from s 0 n) b ≡ true
  unfolding household block_at kind_at role_at
  some k l h m = any_line _ s n k l (ap₂ ◌&&◌ (eq-eqb _ _ ((its_persons k l).0 h)) (makes_by (kind_at s k) (role_at s k) m))

  someone : household (lines_from s 0 n) b ≡ true → (k : ℕ) × (k < n) × (has b (person_at s k) ≡ true) × Makes k
  unfolding household block_at kind_at role_at
  someone e =
      let r = line_any _ s n e in
      let t = and_parts (eqb (block_at s r.0) b) (makes_household (kind_at s r.0) (role_at s r.0)) r.2 in
      (r.0, r.1, (its_persons r.0 r.1).1 (eqb-true _ _ t.0), makes_of (kind_at s r.0) (role_at s r.0) t.1)

  pub unit_draws : (household (lines_from s 0 n) b ≡ false) ↔ DrawsNoService s n b
  unit_draws = (λ e k l h. (λ z. excluded k (λ o. clash (some k l h (inr (z, o))) e), λ two. clash (some k l h (inl two)) e), λ d. nobody d)
    where
      excluded : (k : ℕ) → (role_at s k ≢ 2 → ⊥) → role_at s k ≡ 2
      excluded k n = pick (eqb (role_at s k) 2) refl
        where
          pick : (x : Bool) → eqb (role_at s k) 2 ≡ x → role_at s k ≡ 2
          pick true e = eqb-true (role_at s k) 2 e
          pick false e = absurd (n (eqb-false (role_at s k) 2 e))

      nobody : DrawsNoService s n b → household (lines_from s 0 n) b ≡ false
      nobody d = pick (household (lines_from s 0 n) b) refl
        where
          pick : (x : Bool) → household (lines_from s 0 n) b ≡ x → x ≡ false
          pick true e = let r = someone e in let t = d r.0 r.1 r.2 in absurd (⊎_elim (λ two. t.1 two) (λ m. m.1 (t.0 m.0)) r.3)
          pick false e = refl

  -- nobody in a unit has another kind than 0 and 2
  pub unit_excluded : (household (lines_from s 0 n) b ≡ false) ↔ EverybodyExcluded s n b
  unit_excluded = (λ e. everybody (unit_draws.0 e), λ all. unit_draws.1 (λ k l h. only all k l h))
    where
      everybody : DrawsNoService s n b → EverybodyExcluded s n b
      everybody d p h =
          let r = parts.members unit.0 unit.1 p (ap (λ (b : ℕ). has b p) unit.2 ∙ h) in
          let t = d r.0 r.1 (ap (has b) r.2 ∙ h) in
          let zero = ⊎_elim (λ z. z) (λ two. absurd (t.1 two)) r.3 in
          (r.0, r.1, r.2, zero, t.0 zero)

      only : EverybodyExcluded s n b → DrawsNoService s n b
      only all k l h =
          let r = all (person_at s k) h in
          let i : r.0 ≡ k = once parts r.0 k r.1 l r.2 in
          let zero : kind_at s k ≡ 0 = ap (kind_at s) (sym i) ∙ r.3 in
          (λ z. ap (role_at s) (sym i) ∙ r.4, λ two. omega arith)
