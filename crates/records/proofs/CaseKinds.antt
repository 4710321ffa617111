-- Each kind of record in a case: what one more of them changes and what is wrong with it; and the first pass.
use mathlib.Core.Path.{◌≡◌, refl, sym, ap, ◌∙◌}
use mathlib.Core.Bool.{Bool, true, ◌&&◌, not, cond, or-false}
use mathlib.Core.List.{List, [], ◌∷◌, ◌++◌}
use Prim.Native.Nat.{ℕ, ◌≤◌}
use native.Mathlib.Omega.{arith}
use lib.ListN.{length, take}
use lib.Dec.{eqb, ltb, leb}
use Rattle.records.specs.paper.Fields.{needs}
use Rattle.records.specs.paper.Case.{Case, CaseHeading, Family, Boolean, Relation, case_formats, case_counts, case_heading_from, add_to_case, judge_case, empty_case, case_records, family_from, boolean_from, relation_from, constraint_from}
use Rattle.records.specs.code.Passes.{at_start, Passed, judgement}
use Rattle.records.specs.code.CasePasses.{CleanCase, case_reading, with_case_headings, with_families, with_booleans, with_relations, with_constraints}
use Rattle.records.specs.declared.fields.passing.Passing.{Passing}
use Rattle.records.proofs.KindLaws.{length_more, past, Plain, plain_kind, not-not, heading_there}
use Rattle.records.proofs.Chain.{raw}
use Rattle.records.proofs.Passing.{Kind, Reached, first_kind_lem}

pub case-kinds : length case_formats ≡ 5
unfolding case_formats
case-kinds = refl

pub heading_adds : (C : Case) (xs : List CaseHeading) (b : ℕ) (vs : List (List ℕ)) → add_to_case (raw 1 b vs) (with_case_headings C xs) ≡ with_case_headings C (xs ++ (case_heading_from (raw 1 b vs) ∷ []))
unfolding add_to_case
heading_adds C xs b vs = refl

pub heading_judges : (headed : Bool) (C : Case) (xs : List CaseHeading) (b : ℕ) (vs : List (List ℕ)) → CleanCase headed C → Unit {0}
    → judge_case (raw 1 b vs) (with_case_headings C (xs ++ (case_heading_from (raw 1 b vs) ∷ []))) ≡ judgement (length xs) 1 (needs 81 b && true)
unfolding judge_case case_formats case_counts
heading_judges headed C xs b vs c u = rw (length_more xs (case_heading_from (raw 1 b vs)), lib.Dec.eqb-suc-zero (length xs), past 1 (length xs), or-false (leb 1 (length xs)))

abbrev pub heading_kind : Kind case_reading CaseHeading
heading_kind = record {
  K = 1;
  low = omega arith;
  top = omega (arith, case-kinds);
  put = with_case_headings;
  make = case_heading_from;
  judge = λ headed xs b x. judgement (length xs) 1 (needs 81 b && true);
  Fine = λ xs. Unit {0};
  adds = heading_adds;
  judges = heading_judges;
}

-- a case is judged by whether it has a heading
case_judges : (t f : Bool) {g h : Bool} → g ≡ h → ◌≡◌ {A = ℕ} (cond t 2 (cond (f && g) 0 3)) (cond t 2 (cond (f && h) 0 3))
case_judges t f c = ap (λ (h : Bool). cond t 2 (cond (f && h) 0 3)) c

pub family-plain : Plain case_reading 2 16 (needs 1) with_families family_from
unfolding add_to_case judge_case case_formats case_counts
family-plain = record {
  low = omega arith;
  top = omega (arith, case-kinds);
  adds = λ C xs b vs. refl;
  judges = λ headed C xs b vs c. case_judges (ltb 16 (length xs)) (needs 1 b) c;
}

abbrev pub family_kind : Kind case_reading Family
family_kind = plain_kind family-plain

pub boolean_plain : Plain case_reading 3 64 (needs 1) with_booleans boolean_from
unfolding add_to_case judge_case case_formats case_counts
boolean_plain = record {
  low = omega arith;
  top = omega (arith, case-kinds);
  adds = λ C xs b vs. refl;
  judges = λ headed C xs b vs c. case_judges (ltb 64 (length xs)) (needs 1 b) c;
}

abbrev pub boolean_kind : Kind case_reading Boolean
boolean_kind = plain_kind boolean_plain

pub relation-plain : Plain case_reading 4 256 (needs 7) with_relations relation_from
unfolding add_to_case judge_case case_formats case_counts
relation-plain = record {
  low = omega arith;
  top = omega (arith, case-kinds);
  adds = λ C xs b vs. refl;
  judges = λ headed C xs b vs c. case_judges (ltb 256 (length xs)) (needs 7 b) c;
}

abbrev pub relation_kind : Kind case_reading Relation
relation_kind = plain_kind relation-plain

pub constraint_plain : Plain case_reading 5 16 (needs 1) with_constraints constraint_from
unfolding add_to_case judge_case case_formats case_counts
constraint_plain = record {
  low = omega arith;
  top = omega (arith, case-kinds);
  adds = λ C xs b vs. refl;
  judges = λ headed C xs b vs c. case_judges (ltb 16 (length xs)) (needs 1 b) c;
}

abbrev pub constraint_kind : Kind case_reading ℕ
constraint_kind = plain_kind constraint_plain

-- ---- the first pass; the others leave the heading as it is

clean-heading : (n : ℕ) (x : CaseHeading) → n ≤ 1 → CleanCase (eqb n 1) (with_case_headings empty_case (take n (x ∷ [])))
clean-heading n x h = ap not (heading_there n x h) ∙ not-not (eqb n 1)

pub first-pass : (s : List ℕ) (p : Passing) (n : ℕ) (x : CaseHeading) → Passed case_reading with_case_headings 1 s at_start p (take n (x ∷ [])) → n ≤ 1 → p.headed ≡ eqb n 1
    → Reached case_reading s (case_records s) 2 p (with_case_headings empty_case (take n (x ∷ [])))
unfolding case_records
first-pass s p n x h l e = record { is = first_kind_lem case_reading s empty_case ∙ h empty_case refl; clean = clean-heading n x l ∙ sym e }
