-- An accepted case is sound over its plan.
use mathlib.Core.Path.{◌≡◌, refl, ap, subst}
use mathlib.Core.Bool.{Bool, true, false, ◌&&◌, not, cond}
use mathlib.Core.List.{List, [], ◌∷◌}
use mathlib.Core.Logic.{inl}
use Prim.Native.Nat.{ℕ, ◌+◌, ◌-◌, ◌≤◌, zero-le, suc-le-suc}
use native.Mathlib.Omega.{arith}
use lib.ListN.{length, get_or}
use lib.Dec.{eqb, ltb}
use lib.Pow.{pow_pos}
use borrow.Author.Tests.{ltb-false, eqb-false}
use Rattle.sets.specs.paper.Sets.{All}
use Rattle.records.specs.paper.Fields.{Raw, field, num, format_of, number, evidence, up_to, list, fine}
use Rattle.records.specs.paper.Plan.{Plan, boolean_fact, faults}
use Rattle.records.specs.paper.Case.{Case, Observation, case_formats, observations_from, case_heading_from, family_from, boolean_from, relation_from, constraint_from, add_to_case, case_counts, judge_case, empty_case, case_records, relation_sound, case_naming_faults, booleans_at, read_case, case_heading}
use Rattle.records.specs.promises.Sound.{SoundCaseHeading, SoundFamily, SoundObservation, SoundBoolean, SoundRelation, SoundCase}
use Rattle.sets.proofs.Every.{all_any, exactly_one, all_less, all_parts, all_get_d}
use Rattle.records.proofs.FieldLaws.{InFormat, Held, Fitting, held, byte-top, byte-numbers, mask_below, most-top, pairs, list-pairs}
use Rattle.records.proofs.ReadLaws.{fine_then, of_fine, past-faults, faultless, Judged, Kept, read_keeps, OfKind, kind-none, kind-joined, each-sound}

-- ---- what each record keeps

record Kinds (C : Case) : Type 0 where
  headings : OfKind case_formats 1 case_heading_from C.headings
  families : OfKind case_formats 2 family_from C.families
  booleans : OfKind case_formats 3 boolean_from C.booleans
  relations : OfKind case_formats 4 relation_from C.relations
  constraints : OfKind case_formats 5 constraint_from C.constraints

-- what 0 from the judge says
record Passed (r : Raw) (C : Case) : Type 0 where
  limit : get_or (case_counts C) (r.kind - 1) 0 ≤ (format_of case_formats r.kind).limit
  fits : (format_of case_formats r.kind).fits r.bits ≡ true
  heading : length C.headings ≡ 0 → ⊥

passed : (r : Raw) (C : Case) → judge_case r C ≡ 0 → Passed r C
unfolding judge_case
passed r C e = pick (ltb top have) ((format_of case_formats r.kind).fits r.bits) (eqb (length C.headings) 0) refl refl refl e
  where
    top : ℕ
    top = (format_of case_formats r.kind).limit

    have : ℕ
    have = get_or (case_counts C) (r.kind - 1) 0

    pick : (a b c : Bool) → ltb top have ≡ a → (format_of case_formats r.kind).fits r.bits ≡ b → eqb (length C.headings) 0 ≡ c → ◌≡◌ {A = ℕ} (cond a 2 (cond (b && not c) 0 3)) 0 → Passed r C
    pick true b c ea eb ec e = absurd (omega arith)
    pick false false c ea eb ec e = absurd (omega arith)
    pick false true true ea eb ec e = absurd (omega arith)
    pick false true false ea eb ec e = record { limit = ltb-false top have ea; fits = eb; heading = eqb-false (length C.headings) 0 ec }

kinds-joined : (r : Raw) (C : Case) → InFormat case_formats r → judge_case r (add_to_case r C) ≡ 0 → Kinds C → Kinds (add_to_case r C)
unfolding add_to_case case_counts
kinds-joined r C f z k = record {
  headings = kind-joined case_formats 1 case_heading_from r C.headings counts (f, p.fits) p.limit refl k.headings;
  families = kind-joined case_formats 2 family_from r C.families counts (f, p.fits) p.limit refl k.families;
  booleans = kind-joined case_formats 3 boolean_from r C.booleans counts (f, p.fits) p.limit refl k.booleans;
  relations = kind-joined case_formats 4 relation_from r C.relations counts (f, p.fits) p.limit refl k.relations;
  constraints = kind-joined case_formats 5 constraint_from r C.constraints counts (f, p.fits) p.limit refl k.constraints;
}
  where
    counts : List ℕ
    counts = case_counts (add_to_case r C)

    p : Passed r (add_to_case r C)
    p = passed r (add_to_case r C) z

kinds-none : Kinds empty_case
kinds-none = record {
  headings = kind-none case_formats 1 case_heading_from;
  families = kind-none case_formats 2 family_from;
  booleans = kind-none case_formats 3 boolean_from;
  relations = kind-none case_formats 4 relation_from;
  constraints = kind-none case_formats 5 constraint_from;
}

-- ---- the records of each kind

heading-sound : (r : Raw) → Fitting case_formats 1 r → Unit {0} → SoundCaseHeading (case_heading_from r)
unfolding case_formats
heading-sound r h e = record {
  relation = suc-le-suc (byte-top (number ∷ []) (field r 0) (held case_formats 1 r h 0) 0);
  scope = suc-le-suc (byte-top (number ∷ []) (field r 1) (held case_formats 1 r h 1) 0);
  segment = suc-le-suc (byte-top (number ∷ []) (field r 2) (held case_formats 1 r h 2) 0);
  roster = mask_below (field r 4) (held case_formats 1 r h 4);
  complete = byte-numbers evidence (field r 5) (held case_formats 1 r h 5);
  most_worlds = most-top (field r 6) (held case_formats 1 r h 6);
}

family-sound : (r : Raw) → Fitting case_formats 2 r → Unit {0} → SoundFamily (family_from r)
unfolding case_formats
family-sound r h e = record {
  number = suc-le-suc (byte-top (number ∷ []) (field r 0) (held case_formats 2 r h 0) 0);
  scope = suc-le-suc (byte-top (number ∷ []) (field r 1) (held case_formats 2 r h 1) 0);
  complete = byte-numbers evidence (field r 2) (held case_formats 2 r h 2);
}

observations_in : (v : List ℕ) → Held (list 16 (up_to 1 ∷ evidence ∷ [])) v → (length (observations_from v) ≤ 16) × All SoundObservation (observations_from v)
unfolding pairs observations_from
observations_in v h =
    subst (λ (os : List Observation). (length os ≤ 16) × All SoundObservation os) (same v)
    (list-pairs make SoundObservation 16 (up_to 1) evidence (λ x y k l. record { value = suc-le-suc k.1; evidence = suc-le-suc l.1 }) v h)
  where
    make : ℕ → ℕ → Observation
    make v e = record { value = v; evidence = e }

    same : (v : List ℕ) → pairs make v ≡ observations_from v
    same [] = refl
    same (v ∷ []) = refl
    same (v ∷ e ∷ bs) = ap (λ (os : List Observation). make v e ∷ os) (same bs)

module _ (P : Plan) where
  boolean_sound : (r : Raw) → Fitting case_formats 3 r → boolean_fact P (num r 0) ≡ true → SoundBoolean P (boolean_from r)
  unfolding case_formats
  boolean_sound r h e =
      let o = observations_in (field r 2) (held case_formats 3 r h 2) in
      record { fact = e; unknown = byte-numbers evidence (field r 1) (held case_formats 3 r h 1); few = o.0; observations = o.1 }

  relation-sound : (C : Case) (r : Raw) → Fitting case_formats 4 r → relation_sound P C (relation_from r) ≡ true → SoundRelation P C (relation_from r)
  unfolding case_formats
  relation-sound C r h e = record {
    sort = e;
    observation = record {
      value = suc-le-suc (byte-top (up_to 1 ∷ []) (field r 1) (held case_formats 4 r h 1) 0);
      evidence = suc-le-suc (byte-top (evidence ∷ []) (field r 2) (held case_formats 4 r h 2) 0);
    };
  }

  -- ---- the case

  whole : (C : Case) → Kinds C → Judged case_formats add_to_case judge_case Kinds kinds-joined C → All (λ n. n ≡ 0) (case_naming_faults P C) → SoundCase P C
  unfolding case_formats case_naming_faults
  whole C k j z =
      let Z : ℕ → Type 0 = λ n. n ≡ 0 in
      let a = all_parts Z (faults 4 (λ b. boolean_fact P b.fact) C.booleans) _ z in
      let b = all_parts Z (faults 4 (relation_sound P C) C.relations) _ a.1 in
      record {
        heading = exactly_one (length C.headings) k.headings.0 (passed j.0 C j.1).heading;
        headings = each-sound case_formats 1 case_heading_from (λ h. Unit {0}) SoundCaseHeading heading-sound C.headings k.headings (all_any C.headings);
        family_limit = k.families.0;
        families = each-sound case_formats 2 family_from (λ m. Unit {0}) SoundFamily family-sound C.families k.families (all_any C.families);
        boolean_limit = k.booleans.0;
        booleans = each-sound case_formats 3 boolean_from (λ b. boolean_fact P b.fact ≡ true) (SoundBoolean P) boolean_sound C.booleans k.booleans
            (faultless 3 (λ b. boolean_fact P b.fact) C.booleans a.0);
        relation_limit = k.relations.0;
        relations = each-sound case_formats 4 relation_from (λ r. relation_sound P C r ≡ true) (SoundRelation P C) (relation-sound C) C.relations k.relations
            (faultless 3 (relation_sound P C) C.relations b.0);
        constraints = (k.constraints.0, all_less (length P.nodes) C.constraints (faultless 3 (λ i. ltb i (length P.nodes)) C.constraints b.1));
      }

  -- AN ACCEPTED CASE IS SOUND, over whatever plan it was read
  pub accepted_case : (s : List ℕ) (C : Case) → read_case P s ≡ fine C → SoundCase P C
  unfolding read_case case_records
  accepted_case s C e =
      of_fine (SoundCase P) (read_case P s) C
      (fine_then (Kept case_formats add_to_case judge_case Kinds kinds-joined) (SoundCase P) (case_records s) _
      (read_keeps case_formats add_to_case judge_case Kinds kinds-joined (length s + 1) s 0 0 empty_case 0 kinds-none (inl refl)) (λ D h.
      past-faults (SoundCase P) (booleans_at D) (case_naming_faults P D) (fine D) (λ z. whole D h.0 h.1 z)))
      e

-- the heading of a sound case, and what stands for one where there is none
pub sound-heading : {P : Plan} {C : Case} → SoundCase P C → SoundCaseHeading (case_heading C)
unfolding case_heading
sound-heading {C = C} s =
    all_get_d SoundCaseHeading C.headings _ s.headings
    (record { relation = omega arith; scope = omega arith; segment = omega arith; roster = pow_pos 64; complete = (zero-le, tt); most_worlds = zero-le }) 0
