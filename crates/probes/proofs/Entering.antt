-- From what was read to the definitions: a plan and a case that were read are the accepted ones, and bind as the code's structs say.
use mathlib.Core.Path.{◌≡◌, refl, sym, ap, ◌∙◌, subst}
use mathlib.Core.Bool.{Bool, true, false, cond}
use mathlib.Core.List.{List}
use Prim.Native.Nat.{ℕ, zero, suc, ◌≤◌, ◌<◌}
use native.Mathlib.Nat.{le_trans}
use native.Mathlib.Omega.{arith}
use lib.ListN.{length, get_or, take, replicate, length-take, get_or-eq_default}
use lib.Seq.{get_or-take}
use lib.Dec.{leb}
use borrow.Author.Tests.{eq-eqb, ne_eqb}
use Rattle.records.specs.paper.Fields.{Verdict, fine, refused, on_fine}
use Rattle.records.specs.paper.Plan.{Plan, checked_plan}
use Rattle.records.specs.paper.Case.{Case, CaseHeading, read_case, case_heading}
use Rattle.records.specs.code.Decoded.{plan_of, case_of, case_heading_of, facts_of}
use Rattle.records.specs.code.PlanRead.{plan_read_of}
use Rattle.records.specs.code.CaseRead.{case_read_of}
use Rattle.records.specs.promises.Sound.{Sound, SoundCase}
use Rattle.records.specs.declared.plan.reading.PlanRead.{PlanRead}
use Rattle.records.specs.declared.case.reading.CaseRead.{CaseRead}
use Rattle.records.proofs.Accepted.{accepted}
use Rattle.records.proofs.AcceptedCase.{accepted_case}
use Rattle.sets.specs.paper.Sets.{has}
use Rattle.expressions.specs.paper.Influence.{Frame, open_decisions, decision_count}
use Rattle.expressions.specs.paper.Variables.{is_variable, slots_by, slots, booleans_among, boolean_count, world_count}
use Rattle.expressions.specs.code.Codes.{bound_of}
use Rattle.expressions.specs.code.Counted.{count_against, Counts}
use Rattle.expressions.specs.code.Reached.{Reached}
use Rattle.expressions.specs.code.Influences.{influence_by}
use Rattle.expressions.specs.declared.reach.Reach.{Reach}
use Rattle.expressions.specs.declared.variables.Count.{Count}
use Rattle.expressions.proofs.SlotLaws.{variable_from, order_of}
use Rattle.expressions.proofs.CountLaws.{boolean_few}
use Rattle.expressions.proofs.OpenLaws.{opens-number}
use Rattle.expressions.specs.paper.Bindings.{Bound, bindings, bindings_by, binding_at, bindable, frame_of}
use Rattle.expressions.specs.code.Coded.{frame_by}
use Rattle.expressions.proofs.FactLaws.{bindings_by_lem}
use Rattle.expressions.proofs.ReachLaws.{frame_of_lem, heading_of, influence-list}
use Rattle.records.specs.code.Check.{checked_of}
use Rattle.records.proofs.CheckLaws.{refused_is}
use Rattle.records.specs.declared.checked.Checked.TheVariants.{Accepted, Refused}
use Rattle.probes.specs.Entries.{refusal_number, record_of, given_over, both_read, influences_in, refusal_by}
use Rattle.records.specs.declared.plan.Plan.{Plan as Coded}
use Rattle.records.specs.declared.case.Case.{Case as CodedCase}

-- ---- the plan

read-plan : (s : List ℕ) (r : PlanRead) → plan_read_of r ≡ checked_plan s → r.number ≡ 0 → checked_plan s ≡ fine (plan_of r.plan)
unfolding plan_read_of
read-plan s r e z = sym e ∙ ap (λ (b : Bool). cond b (fine (plan_of r.plan)) (refused r.number r.«record»)) (eq-eqb r.number 0 z)

pub plan-sound : (s : List ℕ) (r : PlanRead) → plan_read_of r ≡ checked_plan s → r.number ≡ 0 → Sound (plan_of r.plan)
plan-sound s r e z = accepted s (plan_of r.plan) (read-plan s r e z)

pub plan-refused : (s t : List ℕ) (r : PlanRead) → plan_read_of r ≡ checked_plan s → (r.number ≡ 0 → ⊥) → refused r.number r.«record» ≡ both_read s t
unfolding both_read plan_read_of
plan-refused s t r e n =
    ap (λ (v : Verdict Plan). on_fine v (given_over t))
    (sym (ap (λ (b : Bool). cond b (fine (plan_of r.plan)) (refused r.number r.«record»)) (ne_eqb r.number 0 n)) ∙ e)

-- ---- the case over it

module _ (s t : List ℕ) (r : PlanRead) (e : plan_read_of r ≡ checked_plan s) (z : r.number ≡ 0) (q : CaseRead) (k : case_read_of q ≡ read_case (plan_of r.plan) t) where
  abbrev P : Plan
  P = plan_of r.plan

  over-plan : given_over t P ≡ both_read s t
  unfolding both_read
  over-plan = ap (λ (v : Verdict Plan). on_fine v (given_over t)) (sym (read-plan s r e z))

  with_plan : {v : Verdict Case} → v ≡ case_read_of q → on_fine v (λ C. fine (record { plan = P; case = C })) ≡ both_read s t
  with_plan h = ap (λ (v : Verdict Case). on_fine v (λ C. fine (record { plan = P; case = C }))) (h ∙ k) ∙ over-plan

  pub case-refused : (q.number ≡ 0 → ⊥) → refused q.number q.«record» ≡ both_read s t
  unfolding case_read_of
  case-refused n = with_plan (sym (ap (λ (b : Bool). cond b (fine (case_of q.case)) (refused q.number q.«record»)) (ne_eqb q.number 0 n)))

  module _ (y : q.number ≡ 0) where
    case-fine : case_read_of q ≡ fine (case_of q.case)
    unfolding case_read_of
    case-fine = ap (λ (b : Bool). cond b (fine (case_of q.case)) (refused q.number q.«record»)) (eq-eqb q.number 0 y)

    pub both_read_lem : fine (record { plan = P; case = case_of q.case }) ≡ both_read s t
    both_read_lem = with_plan (sym case-fine)

    pub case-sound : SoundCase P (case_of q.case)
    case-sound = accepted_case P t (case_of q.case) (sym k ∙ case-fine)

-- ---- what binds them

module _ (plan : Coded) (case : CodedCase) (sound : Sound (plan_of plan)) (whole : SoundCase (plan_of plan) (case_of case))
    (reach : Reach) (reached : Reached (frame_by plan case.heading.roster case.constraints) reach) where
  abbrev Pl : Plan
  Pl = plan_of plan

  abbrev Ca : Case
  Ca = case_of case

  abbrev bs : List Bound
  bs = bindings Pl Ca

  framed : frame_by plan case.heading.roster case.constraints ≡ frame_of Pl Ca
  framed = frame_of_lem plan case whole.heading

  over : Reached (frame_of Pl Ca) reach
  over = subst (λ (F : Frame). Reached F reach) framed reached

  pub bound_code : (f : ℕ) → binding_at (bindings_by Pl Ca reach.bound) f ≡ binding_at bs f
  bound_code f =
      ap (λ (m : ℕ). binding_at (bindings_by Pl Ca m) f) over.bound ∙ ap (λ (l : List Bound). binding_at l f) (bindings_by_lem Pl Ca)

  pub decisions-few : reach.undecided.count ≡ decision_count Pl
  decisions-few = opens-number reach.undecided (open_decisions Pl) over.opens

  module _ (booleans : ℕ) (b : booleans ≡ booleans_among (facts_of plan.facts)) where
    booleans_are : booleans ≡ boolean_count Pl
    unfolding boolean_count plan_of
    booleans_are = b

    pub booleans-fit : booleans ≤ reach.count
    booleans-fit = let a = booleans_are in let c = over.count in let f = boolean_few Pl in omega (arith, a, c, f)

    pub in_order : slots_by booleans reach.undecided.count reach.count ≡ slots Pl
    in_order =
        ap (λ (n : ℕ). slots_by n reach.undecided.count reach.count) booleans_are
        ∙ ap (λ (n : ℕ). slots_by (boolean_count Pl) n reach.count) decisions-few
        ∙ ap (λ (n : ℕ). slots_by (boolean_count Pl) (decision_count Pl) n) over.count ∙ sym (order_of Pl)

  module _ (codes : List ℕ) (coded : (f : ℕ) → bound_of (get_or codes f 0) ≡ binding_at bs f) where
    -- the facts whose code is from 3 on
    pub listed-sets : (variables : ℕ) → ((f : ℕ) → f < 64 → has variables f ≡ leb 3 (get_or codes f 0))
        → influence_by reach variables ≡ influences_in (fine (record { plan = Pl; case = Ca }))
    listed-sets variables varied =
        influence-list (frame_of Pl Ca) reach over bs variables (λ f h.
        varied f (le_trans h sound.fact_limit) ∙ sym (variable_from (get_or codes f 0)) ∙ ap is_variable (coded f))

    pub worlds-counted : (r : Count) → Counts codes reach.count reach.undecided.count case.heading.most_worlds r
        → r ≡ count_against (world_count Pl bs) (case_heading Ca).most_worlds
    unfolding case_heading_of
    worlds-counted r counts =
        counts.worlds Pl bs (sym over.count) (sym decisions-few) coded
        ∙ ap (λ (h : CaseHeading). count_against (world_count Pl bs) h.most_worlds) (sym (heading_of case whole.heading))

-- ---- the refusals that come with binding

pub passed_over : (C : Case) (over b : Bool) → over ≡ b → checked_of (bindable C) ≡ Accepted → (cond b 11 0 ≡ refusal_number (refusal_by C over)) × (0 ≡ record_of (refusal_by C over))
unfolding checked_of
passed_over C over b o e = subst (λ (x : Bool). (cond b 11 0 ≡ refusal_number (refusal_by C x)) × (0 ≡ record_of (refusal_by C x))) (sym o) (told (bindable C) e b)
  where
    told : (v : Verdict Case) → checked_of v ≡ Accepted → (b : Bool)
        → (cond b 11 0 ≡ refusal_number (on_fine v (λ C. cond b (refused 11 0) (fine C)))) × (0 ≡ record_of (on_fine v (λ C. cond b (refused 11 0) (fine C))))
    told (fine C) e true = (refl, refl)
    told (fine C) e false = (refl, refl)
    told (refused n k) e b = let z : ◌≡◌ {A = ℕ} 0 1 = cc in absurd (omega arith)

pub first-refused : (C : Case) (over : Bool) (n k : ℕ) → checked_of (bindable C) ≡ Refused n k → (n ≡ refusal_number (refusal_by C over)) × (k ≡ record_of (refusal_by C over))
first-refused C over n k e = let h = refused_is (bindable C) (sym e) in (rw h, rw h)

-- ---- nothing, and what is read of it

pub zeros : (n f : ℕ) → ◌≡◌ {A = ℕ} (get_or (replicate n 0) f 0) 0
zeros zero f = refl
zeros (suc n) zero = refl
zeros (suc n) (suc f) = zeros n f

pub taken_at : (xs : List ℕ) (count n : ℕ) → n < count → get_or xs n 0 ≡ get_or (take count xs) n 0
taken_at xs count n h = sym (get_or-take count xs n 0 h)

pub taken_past : (xs : List ℕ) (count n : ℕ) → count ≤ n → ◌≡◌ {A = ℕ} 0 (get_or (take count xs) n 0)
taken_past xs count n h = sym (get_or-eq_default (take count xs) 0 (subst (λ (m : ℕ). m ≤ n) (sym (length-take count xs)) (omega arith)))

pub taken_long : (xs : List ℕ) (count n : ℕ) → length xs ≤ n → ◌≡◌ {A = ℕ} 0 (get_or (take count xs) n 0)
taken_long xs count n h = sym (get_or-eq_default (take count xs) 0 (subst (λ (m : ℕ). m ≤ n) (sym (length-take count xs)) (omega arith)))
