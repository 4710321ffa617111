-- The case: its records and its refusals 1 to 4. Document 01, "Case record" and "Answer a case".
use Rattle.std.specs.Prelude.{Bool, false, ◌&&◌, not, cond, List, [], ◌∷◌, ◌++◌, ℕ, ◌+◌, ◌-◌, length, get_or, eqb, ltb}
use Rattle.sets.specs.paper.Sets.{has, all_of, any_of}
use Rattle.records.specs.paper.Fields.{up_to, evidence, number, byte, bytes, mask, list, most, Format, needs, Raw, field, num, wide, format_of, Verdict, fine, on_fine, read_from, first_fault}
use Rattle.records.specs.paper.Plan.{Plan, get_fact, is_boolean, boolean_fact, joined, faults}

pub record CaseHeading : Type 0 where
  pub relation : ℕ
  -- "Scope or segment absent or 0 is empty"
  pub scope : ℕ
  pub segment : ℕ
  pub segment_complete : Bool
  pub roster : ℕ
  -- the roster's completeness evidence: none, or one
  pub complete : List ℕ
  pub most_worlds : ℕ

pub record Family : Type 0 where
  pub number : ℕ
  pub scope : ℕ
  -- its completeness evidence: none, or one
  pub complete : List ℕ

-- "value and evidence"
pub record Observation : Type 0 where
  pub value : ℕ
  pub evidence : ℕ

pub record Boolean : Type 0 where
  pub fact : ℕ
  -- explicit-unknown evidence: none, or one
  pub unknown : List ℕ
  pub observations : List Observation

pub record Relation : Type 0 where
  pub fact : ℕ
  pub observation : Observation

pub record Case : Type 0 where
  pub headings : List CaseHeading
  pub families : List Family
  pub booleans : List Boolean
  pub relations : List Relation
  -- "5 constraint: 0 node="
  pub constraints : List ℕ

unfoldable pub case_formats : List Format
case_formats =
    -- 1 heading (one): 0 relation=, 1 scope, 2 segment, 3 no field: segment complete, 4 roster mask=, 5 completeness evidence, 6 most worlds=
    record { limit = 1; fits = needs 0b1010001; fields = byte number ∷ byte number ∷ byte number ∷ bytes [] ∷ mask ∷ byte evidence ∷ most ∷ [] } ∷
    -- 2 family (16): 0 number=, 1 scope, 2 completeness evidence
    record { limit = 16; fits = needs 0b1; fields = byte number ∷ byte number ∷ byte evidence ∷ [] } ∷
    -- 3 boolean (64): 0 fact=, 1 explicit-unknown evidence, 2 list (0–16) of value and evidence
    record { limit = 64; fits = needs 0b1; fields = byte number ∷ byte evidence ∷ list 16 (up_to 1 ∷ evidence ∷ []) ∷ [] } ∷
    -- 4 relation (256): 0 fact=, 1 value=, 2 evidence=
    record { limit = 256; fits = needs 0b111; fields = byte number ∷ byte (up_to 1) ∷ byte evidence ∷ [] } ∷
    -- 5 constraint (16): 0 node=
    record { limit = 16; fits = needs 0b1; fields = byte number ∷ [] } ∷ []

unfoldable pub observations_from : List ℕ → List Observation
observations_from [] = []
observations_from (v ∷ []) = []
observations_from (v ∷ e ∷ bs) = record { value = v; evidence = e } ∷ observations_from bs

abbrev pub case_heading_from : Raw → CaseHeading
case_heading_from r = record { relation = num r 0; scope = num r 1; segment = num r 2; segment_complete = has r.bits 3; roster = wide r 4; complete = field r 5; most_worlds = wide r 6 }

abbrev pub family_from : Raw → Family
family_from r = record { number = num r 0; scope = num r 1; complete = field r 2 }

abbrev pub boolean_from : Raw → Boolean
boolean_from r = record { fact = num r 0; unknown = field r 1; observations = observations_from (field r 2) }

abbrev pub relation_from : Raw → Relation
relation_from r = record { fact = num r 0; observation = record { value = num r 1; evidence = num r 2 } }

abbrev pub constraint_from : Raw → ℕ
constraint_from r = num r 0

unfoldable pub add_to_case : Raw → Case → Case
add_to_case r C = record {
  headings = joined 1 case_heading_from r C.headings;
  families = joined 2 family_from r C.families;
  booleans = joined 3 boolean_from r C.booleans;
  relations = joined 4 relation_from r C.relations;
  constraints = joined 5 constraint_from r C.constraints;
}

unfoldable pub case_counts : Case → List ℕ
case_counts C = length C.headings ∷ length C.families ∷ length C.booleans ∷ length C.relations ∷ length C.constraints ∷ []

unfoldable pub judge_case : Raw → Case → ℕ
judge_case r C =
    cond (ltb (format_of case_formats r.kind).limit (get_or (case_counts C) (r.kind - 1) 0)) 2
    (cond ((format_of case_formats r.kind).fits r.bits && not (eqb (length C.headings) 0)) 0 3)

abbrev pub empty_case : Case
empty_case = record { headings = []; families = []; booleans = []; relations = []; constraints = [] }

unfoldable pub case_records : List ℕ → Verdict Case
case_records s = read_from case_formats add_to_case judge_case (length s + 1) s 0 0 empty_case 0

-- "then 4 (also a relation without its family record, a fact of the wrong sort)"
module _ (P : Plan) (C : Case) where
  abbrev pub has_family : List ℕ → Bool
  has_family ns = any_of (λ f. all_of (eqb f.number) ns) C.families

  unfoldable pub relation_sound : Relation → Bool
  relation_sound r =
      ltb r.fact (length P.facts) && (not (is_boolean (get_fact P r.fact)) && has_family (get_fact P r.fact).family)

  -- of the records from the first boolean on
  unfoldable pub case_naming_faults : List ℕ
  case_naming_faults =
      faults 4 (λ b. boolean_fact P b.fact) C.booleans ++ (faults 4 relation_sound C.relations ++ faults 4 (λ i. ltb i (length P.nodes)) C.constraints)

-- the record number of the first family, and of the first boolean
abbrev pub families_at : Case → ℕ
families_at C = length C.headings

abbrev pub booleans_at : Case → ℕ
booleans_at C = families_at C + length C.families

-- READ A CASE over a plan: the case that comes out, or its refusal 1, 2, 3 or 4
unfoldable pub read_case : Plan → List ℕ → Verdict Case
read_case P s = on_fine (case_records s) (λ C. first_fault (booleans_at C) (case_naming_faults P C) (fine C))

unfoldable pub case_heading : Case → CaseHeading
case_heading C = get_or C.headings 0 (record { relation = 0; scope = 0; segment = 0; segment_complete = false; roster = 0; complete = []; most_worlds = 0 })
