-- Going through the decisions of a cut, and a cut more at the end.
use mathlib.Core.Path.{◌≡◌, ap, ◌∙◌}
use mathlib.Core.Bool.{Bool, true, false, ◌&&◌, cond}
use mathlib.Core.List.{List, [], ◌∷◌, ◌++◌}
use Prim.Native.Nat.{ℕ, suc, ◌+◌, ◌-◌, ◌≤◌, ◌<◌}
use native.Mathlib.Nat.{sub-zero}
use native.Mathlib.Omega.{arith}
use lib.ListN.{get_or}
use lib.Dec.{eqb}
use borrow.Author.Tests.{eq-eqb, ne_eqb}
use Rattle.sets.specs.paper.Sets.{numbers, below, any_of, all_of}
use Rattle.records.specs.paper.Plan.{Cut, decided_once, unresolved_in, unresolved}
use Rattle.records.specs.code.Decoded.{decisions_of}
use Rattle.records.specs.code.PlanPasses.{decisions_left}
use Rattle.records.specs.declared.plan.Decisions.{Decisions}
use Rattle.records.proofs.FactLaws.{and-true, and_assoc}

module _ (d : Decisions) where
  from_cons : (i : ℕ) → i < d.count → decisions_left d i ≡ record { edge = get_or d.edges i 0; verdict = get_or d.verdicts i 0 } ∷ decisions_left d (i + 1)
  unfolding numbers
  from_cons i h =
      let e : d.count - i ≡ suc (d.count - (i + 1)) = omega arith in
      rw (e, ← native.Mathlib.Numerals.add-one i)

  from_none : (i : ℕ) → d.count ≤ i → decisions_left d i ≡ []
  unfolding numbers
  from_none i h = let e : d.count - i ≡ 0 = omega arith in rw e

  pub from_all : decisions_left d 0 ≡ decisions_of d
  unfolding decisions_of below
  from_all = rw sub-zero

  pub any_here : (x i : ℕ) → i < d.count → get_or d.edges i 0 ≡ x → true ≡ any_of (λ e. eqb e.edge x) (decisions_left d i)
  unfolding any_of
  any_here x i h e = rw (from_cons i h, eq-eqb (get_or d.edges i 0) x e)

  pub any_later : (x i : ℕ) → i < d.count → (get_or d.edges i 0 ≡ x → ⊥) → any_of (λ e. eqb e.edge x) (decisions_left d (i + 1)) ≡ any_of (λ e. eqb e.edge x) (decisions_left d i)
  unfolding any_of
  any_later x i h e = rw (from_cons i h, ne_eqb (get_or d.edges i 0) x e)

  pub any_none : (x i : ℕ) → d.count ≤ i → false ≡ any_of (λ e. eqb e.edge x) (decisions_left d i)
  unfolding any_of
  any_none x i h = rw (from_none i h)

  pub once-not : (i : ℕ) → i < d.count → true ≡ any_of (λ e. eqb e.edge (get_or d.edges i 0)) (decisions_left d (i + 1)) → false ≡ decided_once (decisions_left d i)
  unfolding decided_once
  once-not i h e = rw (from_cons i h, ← e)

  pub once_more : (i : ℕ) → i < d.count → false ≡ any_of (λ e. eqb e.edge (get_or d.edges i 0)) (decisions_left d (i + 1)) → decided_once (decisions_left d (i + 1)) ≡ decided_once (decisions_left d i)
  unfolding decided_once
  once_more i h e = rw (from_cons i h, ← e)

  pub once_done : (i : ℕ) → d.count ≤ i → true ≡ decided_once (decisions_left d i)
  unfolding decided_once
  once_done i h = rw (from_none i h)

  pub open_more : (i : ℕ) → i < d.count → unresolved_in (decisions_left d i) ≡ cond (eqb (get_or d.verdicts i 0) 3) 1 0 + unresolved_in (decisions_left d (i + 1))
  unfolding unresolved_in
  open_more i h = rw (from_cons i h)

  -- the count after number i, and what is left to count
  pub open_some : (i t u : ℕ) → i < d.count → get_or d.verdicts i 0 ≡ 3 → u ≡ t + 1
      → (u ≤ t + 1) × (u + unresolved_in (decisions_left d (i + 1)) ≡ t + unresolved_in (decisions_left d i))
  open_some i t u h v e = let z = open_more i h ∙ ap (λ (b : Bool). cond b 1 0 + unresolved_in (decisions_left d (i + 1))) (eq-eqb (get_or d.verdicts i 0) 3 v) in (omega (arith, e), omega (arith, e, z))

  pub open_other : (i t u : ℕ) → i < d.count → (get_or d.verdicts i 0 ≡ 3 → ⊥) → u ≡ t
      → (u ≤ t + 1) × (u + unresolved_in (decisions_left d (i + 1)) ≡ t + unresolved_in (decisions_left d i))
  open_other i t u h v e = let z = open_more i h ∙ ap (λ (b : Bool). cond b 1 0 + unresolved_in (decisions_left d (i + 1))) (ne_eqb (get_or d.verdicts i 0) 3 v) in (omega (arith, e), omega (arith, e, z))

  pub open_done : (i : ℕ) → d.count ≤ i → unresolved_in (decisions_left d i) ≡ 0
  unfolding unresolved_in
  open_done i h = rw (from_none i h)

-- ---- a cut more

pub unresolved-more : (xs : List Cut) (x : Cut) → unresolved (xs ++ (x ∷ [])) ≡ unresolved xs + unresolved_in x.decisions
unfolding unresolved
unresolved-more [] x = omega arith
unresolved-more (c ∷ xs) x = let h = unresolved-more xs x in omega (arith, h)

pub all_more : {A : Type 0} (f : A → Bool) (xs : List A) (x : A) → all_of f (xs ++ (x ∷ [])) ≡ (all_of f xs && f x)
unfolding all_of
all_more f [] x = and-true (f x)
all_more f (y ∷ xs) x = ap (λ (t : Bool). f y && t) (all_more f xs x) ∙ and_assoc (f y) (all_of f xs) (f x)
