-- Laws of a row's rule and of the header.
use mathlib.Core.Path.{◌≡◌, refl, sym, ◌∙◌}
use mathlib.Core.Bool.{Bool, true, false, cond}
use mathlib.Core.List.{List}
use Prim.Native.Nat.{ℕ, ◌≤◌, ◌<◌}
use native.Mathlib.Omega.{arith}
use lib.ListN.{length}
use lib.Dec.{eqb}
use Rattle.sets.specs.paper.Sets.{any_of}
use Rattle.records.specs.paper.Fields.{person, citation}
use Rattle.spreadsheet.specs.paper.Quoting.{Field, strange, field_of}
use Rattle.spreadsheet.specs.paper.Rows.{Row, row, row_by}
use Rattle.spreadsheet.specs.paper.Numerals.{Number, is, number_of, on_number}
use Rattle.spreadsheet.specs.paper.RowRules.{same, base_word, combination_word, status_word, kind_word, left_word, right_word, citation_word, edge_between, status_on, Rule, joins, marks, edge_rule, status_rule, rule_of, Start, behind, header_of}
use Rattle.spreadsheet.specs.code.FieldSeen.{clean, clean_at}
use Rattle.spreadsheet.specs.code.RuleSeen.{leaves, rule_within}
use Rattle.spreadsheet.specs.declared.rule.Rule.{Rule as Found}
use Rattle.spreadsheet.specs.declared.rule.Rule.TheVariants.{Joins, Marks, Bad}
use Rattle.spreadsheet.proofs.NumeralLaws.{if_either}
use Rattle.spreadsheet.proofs.CleanLaws.{word_strange, number-strange, empty_strange, row-clean}

-- ---- edges and statuses

number_either : {A : Type 0} (n : Number) (b : A) → b ≡ on_number n (λ x. b) b
number_either (is x) b = refl
number_either Number.none b = refl

module _ (e : Bool) (l r c rest : List ℕ) where
  pub edge-left : Number.none ≡ number_of person.top l → Rule.bad ≡ edge_rule e l r c rest
  unfolding edge_rule
  edge-left h = rw (← h)

  pub edge-right : Number.none ≡ number_of person.top r → Rule.bad ≡ edge_rule e l r c rest
  unfolding edge_rule
  edge-right h = rw (← h) (number_either (number_of person.top l) Rule.bad)

  pub edge-citation : Number.none ≡ number_of citation.top c → Rule.bad ≡ edge_rule e l r c rest
  unfolding edge_rule
  edge-citation h = rw (← h, ← number_either (number_of person.top r) Rule.bad) (number_either (number_of person.top l) Rule.bad)

  pub edge_is : (a b z : ℕ) → is a ≡ number_of person.top l → is b ≡ number_of person.top r → is z ≡ number_of citation.top c → joins (edge_between e a b z) rest ≡ edge_rule e l r c rest
  unfolding edge_rule
  edge_is a b z f g h = rw (← f, ← g, ← h)

module _ (l r c rest : List ℕ) where
  pub status-right : eqb (length r) 0 ≡ false → Rule.bad ≡ status_rule l r c rest
  unfolding status_rule
  status-right h = rw h

  pub status-left : Number.none ≡ number_of person.top l → Rule.bad ≡ status_rule l r c rest
  unfolding status_rule
  status-left h = rw (← h) (if_either (eqb (length r) 0) Rule.bad)

  pub status-citation : Number.none ≡ number_of citation.top c → Rule.bad ≡ status_rule l r c rest
  unfolding status_rule
  status-citation h = rw (← h, ← number_either (number_of person.top l) Rule.bad) (if_either (eqb (length r) 0) Rule.bad)

  pub status_is : (p z : ℕ) → eqb (length r) 0 ≡ true → is p ≡ number_of person.top l → is z ≡ number_of citation.top c → marks (status_on p z) rest ≡ status_rule l r c rest
  unfolding status_rule
  status_is p z e f h = rw (e, ← f, ← h)

-- ---- the word

module _ (k l r c rest : List ℕ) where
  pub rule_base : same k base_word ≡ true → edge_rule false l r c rest ≡ rule_of (row k l r c rest)
  unfolding rule_of
  rule_base e = rw e

  module _ (n₁ : same k base_word ≡ false) where
    pub rule_combination : same k combination_word ≡ true → edge_rule true l r c rest ≡ rule_of (row k l r c rest)
    unfolding rule_of
    rule_combination e = rw (n₁, e)

    module _ (n₂ : same k combination_word ≡ false) where
      pub rule_status : same k status_word ≡ true → status_rule l r c rest ≡ rule_of (row k l r c rest)
      unfolding rule_of
      rule_status e = rw (n₁, n₂, e)

      pub rule_none : same k status_word ≡ false → Rule.bad ≡ rule_of (row k l r c rest)
      unfolding rule_of
      rule_none e = rw (n₁, n₂, e)

pub rule_broken : Rule.bad ≡ rule_of Row.broken
unfolding rule_of
rule_broken = refl

-- ---- the header

pub head_broken : Start.none ≡ header_of Row.broken
unfolding header_of
head_broken = refl

module _ (k l r c rest : List ℕ) where
  pub head_one : same k kind_word ≡ false → Start.none ≡ header_of (row k l r c rest)
  unfolding header_of
  head_one e = rw e

  pub head_two : same l left_word ≡ false → Start.none ≡ header_of (row k l r c rest)
  unfolding header_of
  head_two e = rw e (if_either (same k kind_word) Start.none)

  pub head_three : same r right_word ≡ false → Start.none ≡ header_of (row k l r c rest)
  unfolding header_of
  head_three e = rw (e, ← if_either (same l left_word) Start.none) (if_either (same k kind_word) Start.none)

  pub head_four : same c citation_word ≡ false → Start.none ≡ header_of (row k l r c rest)
  unfolding header_of
  head_four e = rw (e, ← if_either (same r right_word) Start.none, ← if_either (same l left_word) Start.none) (if_either (same k kind_word) Start.none)

  pub head_all : same k kind_word ≡ true → same l left_word ≡ true → same r right_word ≡ true → same c citation_word ≡ true → behind rest ≡ header_of (row k l r c rest)
  unfolding header_of
  head_all e f g h = rw (e, f, g, h)

-- ---- strange fields

all_bad : (x y z : Bool) → cond x Rule.bad (cond y Rule.bad (cond z Rule.bad Rule.bad)) ≡ Rule.bad
all_bad true y z = refl
all_bad false true z = refl
all_bad false false true = refl
all_bad false false false = refl

module _ (k l r c rest : List ℕ) where
  rule_dead : Rule.bad ≡ edge_rule false l r c rest → Rule.bad ≡ edge_rule true l r c rest → Rule.bad ≡ status_rule l r c rest → rule_of (row k l r c rest) ≡ rule_of Row.broken
  unfolding rule_of
  rule_dead e f g = rw (← e, ← f, ← g) (all_bad (same k base_word) (same k combination_word) (same k status_word))

  rule_dead₁ : any_of strange k ≡ true → rule_of (row k l r c rest) ≡ rule_of Row.broken
  unfolding any_of strange
  rule_dead₁ e = sym (rule_none k l r c rest (word_strange k base_word refl e) (word_strange k combination_word refl e) (word_strange k status_word refl e)) ∙ rule_broken

  rule_dead₂ : any_of strange l ≡ true → rule_of (row k l r c rest) ≡ rule_of Row.broken
  rule_dead₂ e =
      let h = sym (number-strange person.top l e) in
      rule_dead (edge-left false l r c rest h) (edge-left true l r c rest h) (status-left l r c rest h)

  rule_dead₃ : any_of strange r ≡ true → rule_of (row k l r c rest) ≡ rule_of Row.broken
  rule_dead₃ e =
      let h = sym (number-strange person.top r e) in
      rule_dead (edge-right false l r c rest h) (edge-right true l r c rest h) (status-right l r c rest (empty_strange r e))

  rule_dead₄ : any_of strange c ≡ true → rule_of (row k l r c rest) ≡ rule_of Row.broken
  rule_dead₄ e =
      let h = sym (number-strange citation.top c e) in
      rule_dead (edge-citation false l r c rest h) (edge-citation true l r c rest h) (status-citation l r c rest h)

-- by any reading of a field
pub rule_clean_by : (f : List ℕ → Field) (s : List ℕ) → rule_of (row_by (λ x. clean (f x)) s) ≡ rule_of (row_by f s)
rule_clean_by f s = row-clean rule_of f rule_dead₁ rule_dead₂ rule_dead₃ rule_dead₄ s

pub rule_clean : (s : List ℕ) → rule_of (row_by clean_at s) ≡ rule_of (row_by field_of s)
rule_clean s = rule_clean_by field_of s

pub head_clean_by : (f : List ℕ → Field) (s : List ℕ) → header_of (row_by (λ x. clean (f x)) s) ≡ header_of (row_by f s)
unfolding any_of strange
head_clean_by f s = row-clean header_of f
    (λ k l r c rest e. sym (head_one k l r c rest (word_strange k kind_word refl e)) ∙ head_broken)
    (λ k l r c rest e. sym (head_two k l r c rest (word_strange l left_word refl e)) ∙ head_broken)
    (λ k l r c rest e. sym (head_three k l r c rest (word_strange r right_word refl e)) ∙ head_broken)
    (λ k l r c rest e. sym (head_four k l r c rest (word_strange c citation_word refl e)) ∙ head_broken)
    s

pub head_clean : (s : List ℕ) → header_of (row_by clean_at s) ≡ header_of (row_by field_of s)
head_clean s = head_clean_by field_of s

pub rule_leaves : (s : List ℕ) (at m : ℕ) (r : Found) → at < m → m ≤ length s → leaves m r → rule_within s at r
rule_leaves s at m (Joins e n) h k e₁ = (omega arith, omega arith)
rule_leaves s at m (Marks t n) h k e₁ = (omega arith, omega arith)
rule_leaves s at m Bad h k e₁ = tt
