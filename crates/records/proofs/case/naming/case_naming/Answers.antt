-- Refusal 4 of a case over its three kinds in their order.
use mathlib.Core.Path.{◌≡◌, refl, sym, ap, ◌∙◌}
use mathlib.Core.List.{List, ◌++◌}
use Prim.Native.Nat.{ℕ, ◌+◌}
use native.Mathlib.Omega.{arith}
use lib.ListN.{length, length-map}
use Rattle.records.specs.paper.Fields.{fine, first_fault}
use Rattle.records.specs.paper.Plan as paper
use Rattle.records.specs.paper.Case as case
use Rattle.records.specs.code.Decoded.{plan_of, case_of}
use Rattle.records.specs.code.Check.{checked_of}
use Rattle.records.specs.code.Named.{SaysFirst}
use Rattle.records.specs.code.CaseNamed.{CaseCountsOf, boolean_faults, relation_faults, constraint_faults}
use Rattle.records.specs.declared.case.Case.{Case}
use Rattle.records.specs.declared.case.naming.CaseCounts.{CaseCounts}
use Rattle.records.specs.declared.checked.Checked.{Checked}
use Rattle.records.specs.declared.checked.Checked.TheVariants.{Accepted, Refused}
use Rattle.records.proofs.FaultLaws.{kind-refused, kind_passed}
use Rattle.records.proofs.case.naming.case_naming.Goals as goal

-- the faults of each kind and of the kinds after it, and the record at which the kind begins
module _ (P : paper.Plan) (p : Case) (n : CaseCounts) (h : CaseCountsOf (case_of p) n) where
  abbrev C : case.Case
  C = case_of p

  abbrev from-relations : List ℕ
  from-relations = relation_faults P C p.relations ++ constraint_faults P p.constraints

  abbrev at-booleans : ℕ
  at-booleans = n.headings + n.families

  abbrev at-relations : ℕ
  at-relations = at-booleans + n.booleans

  long-booleans : at-relations ≡ at-booleans + length (boolean_faults P p.booleans)
  unfolding case_of
  long-booleans = ap (λ (i : ℕ). at-booleans + i) (h.booleans ∙ sym (length-map C.booleans _))

  long-relations : at-relations + n.relations ≡ at-relations + length (relation_faults P C p.relations)
  unfolding case_of
  long-relations = ap (λ (i : ℕ). at-relations + i) (h.relations ∙ sym (length-map C.relations _))

  all : {s : Checked} → SaysFirst C at-booleans (boolean_faults P p.booleans ++ from-relations) s → SaysFirst C (case.booleans_at C) (case.case_naming_faults P C) s
  unfolding case_of case.case_naming_faults
  all e = let z : at-booleans ≡ case.booleans_at C = omega (arith, h.headings, h.families) in e ∙ ap (λ (i : ℕ). checked_of (first_fault i (case.case_naming_faults P C) (fine C))) z

  boolean-refused : {r : Checked} {i j : ℕ} → r ≡ Refused i j → SaysFirst C at-booleans (boolean_faults P p.booleans) r → SaysFirst C (case.booleans_at C) (case.case_naming_faults P C) r
  boolean-refused {r = r} e is = all (kind-refused at-booleans at-relations (boolean_faults P p.booleans) from-relations C r long-booleans is e)

  relation-refused : {r : Checked} {i j : ℕ} → r ≡ Refused i j → SaysFirst C at-relations (relation_faults P C p.relations) r → SaysFirst C at-relations from-relations r
  relation-refused {r = r} e is = kind-refused at-relations (at-relations + n.relations) (relation_faults P C p.relations) (constraint_faults P p.constraints) C r long-relations is e

  -- a kind in which nothing was found: what is said of the kinds after it is said of it and them
  module _ {r s : Checked} (e : r ≡ Accepted) where
    over-booleans : SaysFirst C at-booleans (boolean_faults P p.booleans) r → SaysFirst C at-relations from-relations s → SaysFirst C (case.booleans_at C) (case.case_naming_faults P C) s
    over-booleans is z = all (kind_passed at-booleans at-relations (boolean_faults P p.booleans) from-relations C r long-booleans is e z)

    over-relations : SaysFirst C at-relations (relation_faults P C p.relations) r → SaysFirst C (at-relations + n.relations) (constraint_faults P p.constraints) s → SaysFirst C at-relations from-relations s
    over-relations is z = kind_passed at-relations (at-relations + n.relations) (relation_faults P C p.relations) (constraint_faults P p.constraints) C r long-relations is e z

pub overflow_add-at_booleans : goal.overflow_add-at_booleans
overflow_add-at_booleans c = omega (arith, c.count_case-counts.ensures.1)

pub boolean_faults-a-requires : goal.boolean_faults-a-requires
boolean_faults-a-requires c = omega (arith, c.count_case-counts.ensures.1)

pub returns-in_default : goal.returns-in_default
unfolding plan_of
returns-in_default c =
    let a = c.args in let n = c.count_case-counts in let b = c.boolean_facts-boolean_set in
    boolean-refused (plan_of a.plan) a.case n.result n.ensures.0 c.in_default.is (c.boolean_faults-a.ensures (plan_of a.plan) (case_of a.case) (b.ensures (plan_of a.plan) refl))

pub overflow_add-at_relations : goal.overflow_add-at_relations
overflow_add-at_relations c = omega (arith, c.count_case-counts.ensures.1)

pub relation_faults-b-requires : goal.relation_faults-b-requires
relation_faults-b-requires c = omega (arith, c.count_case-counts.ensures.1)

pub returns-in_default-b : goal.returns-in_default-b
unfolding plan_of case_of
returns-in_default-b c =
    let a = c.args in let n = c.count_case-counts in let b = c.boolean_facts-boolean_set in let r = c.relation_facts-relation_set in
    over-booleans (plan_of a.plan) a.case n.result n.ensures.0 c.in-Accepted.is (c.boolean_faults-a.ensures (plan_of a.plan) (case_of a.case) (b.ensures (plan_of a.plan) refl))
    (relation-refused (plan_of a.plan) a.case n.result n.ensures.0 c.in_default-b.is (c.relation_faults-b.ensures (plan_of a.plan) (case_of a.case) (r.ensures (plan_of a.plan) (case_of a.case) refl refl)))

pub overflow_add-at_relations-2 : goal.overflow_add-at_relations-2
overflow_add-at_relations-2 c = omega (arith, c.count_case-counts.ensures.1)

pub constraint_faults-requires : goal.constraint_faults-requires
constraint_faults-requires c = omega (arith, c.count_case-counts.ensures.1)

pub returns : goal.returns
unfolding plan_of case_of
returns c =
    let a = c.args in let n = c.count_case-counts in let b = c.boolean_facts-boolean_set in let r = c.relation_facts-relation_set in
    over-booleans (plan_of a.plan) a.case n.result n.ensures.0 c.in-Accepted.is (c.boolean_faults-a.ensures (plan_of a.plan) (case_of a.case) (b.ensures (plan_of a.plan) refl))
    (over-relations (plan_of a.plan) a.case n.result n.ensures.0 c.in-Accepted-b.is (c.relation_faults-b.ensures (plan_of a.plan) (case_of a.case) (r.ensures (plan_of a.plan) (case_of a.case) refl refl))
    (c.constraint_faults.ensures (plan_of a.plan) (case_of a.case) c.count_records-nodes.ensures.0.nodes))
