-- From what was read to the circle: a plan and a case that were read are the accepted ones, and the sets that the code joins make their circles.
use mathlib.Core.Path.{◌≡◌, sym, ap, ◌∙◌}
use mathlib.Core.Bool.{Bool, cond}
use mathlib.Core.List.{List, ◌++◌}
use Prim.Native.Nat.{ℕ, ◌≤◌, ◌<◌}
use lib.ListN.{take}
use borrow.Author.Tests.{eq-eqb, ne_eqb, lt-ltb, le-ltb}
use Rattle.sets.specs.paper.Sets.{one, close_of, below}
use Rattle.records.specs.paper.Fields.{Verdict, fine, refused, on_fine}
use Rattle.records.specs.paper.Plan.{Plan, checked_plan}
use Rattle.records.specs.paper.Case.{Case, read_case}
use Rattle.records.specs.code.Decoded.{plan_of, case_of}
use Rattle.records.specs.code.PlanRead.{plan_read_of}
use Rattle.records.specs.code.CaseRead.{case_read_of}
use Rattle.records.specs.promises.Sound.{SoundCase}
use Rattle.records.specs.declared.plan.Plan.{Plan as Coded}
use Rattle.records.specs.declared.case.Case.{Case as CodedCase}
use Rattle.records.specs.declared.plan.reading.PlanRead.{PlanRead}
use Rattle.records.specs.declared.case.reading.CaseRead.{CaseRead}
use Rattle.expressions.specs.paper.Bindings.{frame_of}
use Rattle.expressions.specs.paper.Influence.{Frame, joins, circle}
use Rattle.expressions.specs.code.Coded.{frame_by}
use Rattle.expressions.specs.code.Listed.{used_at}
use Rattle.expressions.specs.code.Reached.{Reached}
use Rattle.expressions.specs.declared.reach.Reach.{Reach}
use Rattle.expressions.proofs.ReachLaws.{frame_of_lem, joins-list}
use Rattle.exports.specs.Circled.{or_nobody, circle_over, circle_in}

-- ---- over a plan and a case

module _ (plan : Coded) (case : CodedCase) (whole : SoundCase (plan_of plan) (case_of case))
    (reach : Reach) (reached : Reached (frame_by plan case.heading.roster case.constraints) reach) where
  abbrev joined : List ℕ
  joined = take reach.groups.count reach.groups.sets ++ (below reach.count (used_at reach.facts) ++ below reach.undecided.count (used_at reach.decisions))

  pub circle-closed : (p : ℕ) → close_of joined (one p) ≡ circle (frame_of (plan_of plan) (case_of case)) p
  unfolding circle
  circle-closed p =
      let F = frame_by plan case.heading.roster case.constraints in
      ap (λ (sets : List ℕ). close_of sets (one p)) (joins-list F reach reached) ∙ ap (λ (F : Frame). close_of (joins F) (one p)) (frame_of_lem plan case whole.heading)

-- ---- from the bytes

pub no-person : (s t : List ℕ) (p : ℕ) → 64 ≤ p → 0 ≡ circle_in s t p
unfolding circle_in
no-person s t p h = sym (ap (λ (b : Bool). cond b (or_nobody (on_fine (checked_plan s) (circle_over t p))) 0) (le-ltb p 64 h))

module _ (s t : List ℕ) (p : ℕ) (h : p < 64) (r : PlanRead) (e : plan_read_of r ≡ checked_plan s) where
  -- what the number and the record of the plan come to
  by_plan : {v : Verdict Plan} → plan_read_of r ≡ v → or_nobody (on_fine v (circle_over t p)) ≡ circle_in s t p
  unfolding circle_in
  by_plan k =
      ap (λ (v : Verdict Plan). or_nobody (on_fine v (circle_over t p))) (sym k ∙ e)
      ∙ sym (ap (λ (b : Bool). cond b (or_nobody (on_fine (checked_plan s) (circle_over t p))) 0) (lt-ltb p 64 h))

  pub plan_unread : (r.number ≡ 0 → ⊥) → 0 ≡ circle_in s t p
  unfolding plan_read_of
  plan_unread n = by_plan (ap (λ (b : Bool). cond b (fine (plan_of r.plan)) (refused r.number r.«record»)) (ne_eqb r.number 0 n))

  module _ (z : r.number ≡ 0) (q : CaseRead) (k : case_read_of q ≡ read_case (plan_of r.plan) t) where
    abbrev P : Plan
    P = plan_of r.plan

    by_case : {v : Verdict Case} → case_read_of q ≡ v → or_nobody (on_fine v (λ C. fine (circle (frame_of P C) p))) ≡ circle_in s t p
    unfolding plan_read_of
    by_case y =
        ap (λ (v : Verdict Case). or_nobody (on_fine v (λ C. fine (circle (frame_of P C) p)))) (sym y ∙ k)
        ∙ by_plan (ap (λ (b : Bool). cond b (fine P) (refused r.number r.«record»)) (eq-eqb r.number 0 z))

    pub case_unread : (q.number ≡ 0 → ⊥) → 0 ≡ circle_in s t p
    unfolding case_read_of
    case_unread n = by_case (ap (λ (b : Bool). cond b (fine (case_of q.case)) (refused q.number q.«record»)) (ne_eqb q.number 0 n))

    pub both_read_lem : q.number ≡ 0 → circle (frame_of P (case_of q.case)) p ≡ circle_in s t p
    unfolding case_read_of
    both_read_lem y = by_case (ap (λ (b : Bool). cond b (fine (case_of q.case)) (refused q.number q.«record»)) (eq-eqb q.number 0 y))
