-- The sets that hold a person, and what each kind of line says of the sums.
use mathlib.Core.Path.{◌≡◌, refl, sym, ap, ◌∙◌}
use mathlib.Core.Bool.{Bool, true, false, not, cond, not-not}
use mathlib.Core.List.{List, [], ◌∷◌}
use Prim.Native.Nat.{ℕ, zero, suc, ◌-◌, ◌%◌, ◌^◌, ◌≤◌, ◌<◌}
use native.Mathlib.Nat.{mod-eq_of_lt}
use native.Mathlib.Omega.{arith}
use lib.ListN.{length, get_or}
use lib.Dec.{eqb}
use lib.Pow.{pow_pos}
use borrow.Author.Tests.{eqb-false}
use Rattle.sets.specs.paper.Sets.{has, one, only, union_of, union_below, All}
use Rattle.sets.proofs.SetLaws.{one_lt, union_lt}
use Rattle.expressions.specs.paper.Variables.{Influence}
use Rattle.worlds.specs.paper.View.{View}
use Rattle.worlds.specs.code.Tables.{row}
use Rattle.report.specs.paper.Line.{line_by, line_over, first_kind, holding}
use Rattle.report.specs.code.Summed.{stands, roles_agree}
use Rattle.report.specs.code.Written.{LineBy}

-- ---- the sets that hold a person

only_lt : (b : Bool) (s k : ℕ) → s < 2 ^ k → only b s < 2 ^ k
only_lt true s k h = h
only_lt false s k h = pow_pos k

held_lt : (sets : List ℕ) (p k n : ℕ) → n ≤ k → union_below n (λ i. only (has (get_or sets i 0) p) (one i)) < 2 ^ k
unfolding union_below
held_lt sets p k zero h = pow_pos k
held_lt sets p k (suc n) h = union_lt k _ _ (held_lt sets p k n (omega arith)) (only_lt (has (get_or sets n 0) p) (one n) k (one_lt k n h))

pub holding_lt : (sets : List ℕ) (p k : ℕ) → length sets ≤ k → holding sets p < 2 ^ k
unfolding holding
holding_lt sets p k h = held_lt sets p k (length sets) h

-- ---- a person's line from the sums

small-kind : (vs : List View) → All (λ u. (u.role < 256) × (u.kind < 256)) vs → first_kind vs < 256
unfolding first_kind
small-kind [] h = omega arith
small-kind (v ∷ vs) h = pick (eqb v.kind 0) (small-kind vs h.1)
  where
    pick : (b : Bool) → first_kind vs < 256 → cond b (first_kind vs) v.kind < 256
    pick true k = k
    pick false k = h.0.1

over_is : (I : Influence) (p : ℕ) (v : View) (vs : List View)
    → line_over I p (v ∷ vs) ≡ line_by I p (stands (v ∷ vs)) (roles_agree (v ∷ vs)) v (first_kind (v ∷ vs)) (union_of (λ u. u.citations) (v ∷ vs))
unfolding line_over stands roles_agree
over_is I p v vs = refl

not_is : {a b : Bool} → a ≡ not b → b ≡ not a
not_is {a} {b} e = sym (ap not e ∙ not-not b)

module _ (sums : List (List ℕ)) (p facts decisions : ℕ) where
  -- the block stands, and roles differ
  pub line_differs : has (row sums 4 0) p ≡ true → has (row sums 4 1) p ≡ true
      → LineBy sums p facts decisions (record { person = p; kind = 2; role = 0; block = row sums 0 p; facts = facts; decisions = decisions; citations = row sums 3 p })
  line_differs h k = record {
    at = λ I v vs s ef ed.
        let st : stands (v ∷ vs) ≡ true = sym s.summed.standing ∙ h in
        let ag : roles_agree (v ∷ vs) ≡ false = not_is (sym k ∙ s.summed.differing st) in
        rw (over_is I p v vs, st, ag, s.summed.block st, s.citations st, ef, ed);
  }

  -- the block stands, and roles agree
  pub line_stands : (role : ℕ) → role ≡ row sums 1 p % 256 → has (row sums 4 0) p ≡ true → has (row sums 4 1) p ≡ false
      → LineBy sums p facts decisions (record { person = p; kind = 0; role = role; block = row sums 0 p; facts = 0; decisions = 0; citations = row sums 3 p })
  line_stands role e h k = record {
    at = λ I v vs s ef ed.
        let st : stands (v ∷ vs) ≡ true = sym s.summed.standing ∙ h in
        let ag : roles_agree (v ∷ vs) ≡ true = not_is (sym k ∙ s.summed.differing st) in
        let same : role ≡ v.role = e ∙ ap (λ (x : ℕ). x % 256) (s.summed.role st) ∙ mod-eq_of_lt s.small.0.0 in
        rw (over_is I p v vs, st, ag, same, s.summed.block st, s.citations st);
  }

  -- no block stands, and some world has a kind
  pub line_marked : (kind : ℕ) → kind ≡ row sums 2 p % 256 → has (row sums 4 0) p ≡ false → has (row sums 4 2) p ≡ true
      → LineBy sums p facts decisions (record { person = p; kind = kind; role = 0; block = 0; facts = facts; decisions = decisions; citations = 0 })
  line_marked kind e h k = record {
    at = λ I v vs s ef ed.
        let st : stands (v ∷ vs) ≡ false = sym s.summed.standing ∙ h in
        let nz : eqb (first_kind (v ∷ vs)) 0 ≡ false = not_is (sym k ∙ s.summed.marked) in
        let same : kind ≡ first_kind (v ∷ vs) = e ∙ ap (λ (x : ℕ). x % 256) (s.summed.kind (eqb-false (first_kind (v ∷ vs)) 0 nz)) ∙ mod-eq_of_lt (small-kind (v ∷ vs) s.small) in
        rw (over_is I p v vs, st, nz, same, ef, ed);
  }

  -- no block stands, and no world has a kind
  pub line_open : has (row sums 4 0) p ≡ false → has (row sums 4 2) p ≡ false
      → LineBy sums p facts decisions (record { person = p; kind = 1; role = 0; block = 0; facts = facts; decisions = decisions; citations = 0 })
  line_open h k = record {
    at = λ I v vs s ef ed.
        let st : stands (v ∷ vs) ≡ false = sym s.summed.standing ∙ h in
        let z : eqb (first_kind (v ∷ vs)) 0 ≡ true = not_is (sym k ∙ s.summed.marked) in
        rw (over_is I p v vs, st, z, ef, ed);
  }

-- a law for each of the four
pub ruleset each_line = (line_differs, line_stands, line_marked, line_open)
