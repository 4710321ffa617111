-- What a rule of a table is made of: numbers in their ranges.
use mathlib.Core.Path.{◌≡◌, refl}
use mathlib.Core.Bool.{Bool, true, false, cond}
use mathlib.Core.List.{List}
use Prim.Native.Nat.{ℕ, ◌≤◌}
use native.Mathlib.Omega.{arith}
use lib.ListN.{length}
use lib.Dec.{eqb, leb}
use borrow.Author.Tests.{leb-true}
use Rattle.records.specs.paper.Fields.{person, citation}
use Rattle.spreadsheet.specs.paper.Numerals.{Number, is, digits, value_from, leads, decimal_from, number_of, on_number}
use Rattle.spreadsheet.specs.paper.Rows.{row}
use Rattle.spreadsheet.specs.paper.RowRules.{Rule, joins, marks, bad, same, base_word, combination_word, status_word, edge_between, status_on, edge_rule, status_rule, rule_of}

-- a number that is read is in its range
pub number_range : (top : ℕ) (t : List ℕ) (n : ℕ) → number_of top t ≡ is n → n ≤ top
unfolding number_of decimal_from
number_range top t n e = pick (leads t) (digits t) (leb (value_from 0 t) top) refl e
  where
    pick : (a b c : Bool) → leb (value_from 0 t) top ≡ c → cond a (cond b (cond c (is (value_from 0 t)) Number.none) Number.none) Number.none ≡ is n → n ≤ top
    pick true true true r e =
        let v : value_from 0 t ≡ n = cc in
        let l = leb-true (value_from 0 t) top r in
        omega arith
    pick true true false r e = absurd (let z : ◌≡◌ {A = ℕ} 0 1 = cc in omega arith)
    pick true false c r e = absurd (let z : ◌≡◌ {A = ℕ} 0 1 = cc in omega arith)
    pick false b c r e = absurd (let z : ◌≡◌ {A = ℕ} 0 1 = cc in omega arith)

-- what holds of no rule, and of every edge and status with numbers in their ranges, holds of the rule that a row becomes
module _ (Q : Rule → Type 0) (none : Q bad) (rest : List ℕ) where
  edge-made : (b : Bool) (l r c : List ℕ) → ((x y z : ℕ) → x ≤ person.top → y ≤ person.top → z ≤ citation.top → Q (joins (edge_between b x y z) rest))
      → Q (edge_rule b l r c rest)
  unfolding edge_rule
  edge-made b l r c made = pick (number_of person.top l) (number_of person.top r) (number_of citation.top c) refl refl refl
    where
      pick : (u v w : Number) → number_of person.top l ≡ u → number_of person.top r ≡ v → number_of citation.top c ≡ w
          → Q (on_number u (λ x. on_number v (λ y. on_number w (λ z. joins (edge_between b x y z) rest) bad) bad) bad)
      pick (is x) (is y) (is z) e f g = made x y z (number_range person.top l x e) (number_range person.top r y f) (number_range citation.top c z g)
      pick (is x) (is y) Number.none e f g = none
      pick (is x) Number.none w e f g = none
      pick Number.none v w e f g = none

  status-made : (l r c : List ℕ) → ((x z : ℕ) → x ≤ person.top → z ≤ citation.top → Q (marks (status_on x z) rest)) → Q (status_rule l r c rest)
  unfolding status_rule
  status-made l r c made = pick (eqb (length r) 0) (number_of person.top l) (number_of citation.top c) refl refl
    where
      pick : (b : Bool) (u w : Number) → number_of person.top l ≡ u → number_of citation.top c ≡ w
          → Q (cond b (on_number u (λ x. on_number w (λ z. marks (status_on x z) rest) bad) bad) bad)
      pick true (is x) (is z) e g = made x z (number_range person.top l x e) (number_range citation.top c z g)
      pick true (is x) Number.none e g = none
      pick true Number.none w e g = none
      pick false u w e g = none

  pub rule_made : (k l r c : List ℕ)
      → ((b : Bool) (x y z : ℕ) → x ≤ person.top → y ≤ person.top → z ≤ citation.top → Q (joins (edge_between b x y z) rest))
      → ((x z : ℕ) → x ≤ person.top → z ≤ citation.top → Q (marks (status_on x z) rest))
      → Q (rule_of (row k l r c rest))
  unfolding rule_of
  rule_made k l r c edge status = pick (same k base_word) (same k combination_word) (same k status_word)
    where
      pick : (a b d : Bool) → Q (cond a (edge_rule false l r c rest) (cond b (edge_rule true l r c rest) (cond d (status_rule l r c rest) bad)))
      pick true b d = edge-made false l r c (edge false)
      pick false true d = edge-made true l r c (edge true)
      pick false false true = status-made l r c status
      pick false false false = none
