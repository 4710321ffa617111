-- What an opened case rests on: an accepted plan, a case that was read over it, and where it is ready a heading without fault and their
-- bindings. What stops it is a refusal.
use mathlib.Core.Path.{◌≡◌, refl, sym, ap, ◌∙◌, subst}
use mathlib.Core.Bool.{Bool, true, false, ◌||◌, not, cond, true≢false}
use mathlib.Core.List.{List, []}
use Prim.Native.Nat.{ℕ, zero, suc, ◌*◌, ◌<◌, ◌^◌}
use native.Mathlib.Nat.{suc-ne-zero}
use native.Mathlib.Omega.{arith}
use lib.ListN.{length}
use lib.Dec.{eqb, ltb}
use Rattle.sets.specs.paper.Sets.{subset, size}
use Rattle.records.specs.paper.Fields.{Verdict, fine, refused}
use Rattle.records.specs.paper.Plan.{Plan, checked_plan}
use Rattle.records.specs.paper.Case.{Case, CaseHeading, read_case, case_heading, families_at, booleans_at}
use Rattle.records.specs.promises.Sound.{SoundCase}
use Rattle.records.proofs.AcceptedCase.{sound-heading}
use Rattle.records.proofs.ReadLaws.{of_fine, past-faults}
use Rattle.expressions.specs.paper.Rules.{rule_persons}
use Rattle.expressions.specs.paper.Bindings.{Bound, bindings, bindable, family_faults, boolean_faults}
use Rattle.expressions.specs.paper.Variables.{world_count}
use Rattle.report.specs.paper.Line.{line_length}
use Rattle.report.specs.declared.Answer.{Answer}
use Rattle.report.specs.paper.Operations.{told, relation_of, Opened, stopped, incomplete, ready, mismatched, heading_fault, or_stop, unless_fault, too_many, counted, bound_and_counted, bound, opened, answer_opened, answer, show_opened, show}
use Rattle.report.proofs.Numbered.{Numbered, plan_numbered, case_numbered, bindable_numbered}
use Rattle.report.proofs.Answered.{too_many_lem}

-- the plan is accepted, and the case comes out over it
abbrev pub WereRead : List ℕ → List ℕ → Type 0
WereRead plan case = (P : Plan) × (C : Case) × (checked_plan plan ≡ fine P) × (read_case P case ≡ fine C)

module _ (plan case : List ℕ) (room : ℕ) where
  pub record Ready (P : Plan) (C : Case) (bs : List Bound) : Type 0 where
    pub accepted : checked_plan plan ≡ fine P
    pub read : read_case P case ≡ fine C
    pub heading : heading_fault P (case_heading C) room ≡ 0
    pub bindings : bs ≡ bindings P C

  abbrev pub OnOpened : Opened → Type 0
  OnOpened (stopped a) = (told a).refusal ≡ 0 → ⊥
  OnOpened (incomplete r) = (P : Plan) × (C : Case) × (checked_plan plan ≡ fine P) × (read_case P case ≡ fine C) × ((case_heading C).roster ≡ r)
  OnOpened (ready P C bs) = Ready P C bs

  or_stop_lem : {A : Type 0} (v : Verdict A) (f : A → Opened) → Numbered v → ((a : A) → v ≡ fine a → OnOpened (f a)) → OnOpened (or_stop v f)
  or_stop_lem (fine a) f n h = h a refl
  or_stop_lem (refused n k) f z h = z

  unless_fault_lem : (n : ℕ) (o : Opened) → (n ≡ 0 → OnOpened o) → OnOpened (unless_fault n o)
  unless_fault_lem zero o h = h refl
  unless_fault_lem (suc n) o h = suc-ne-zero n

  bound-opened : (P : Plan) (C : Case) → Ready P C (bindings P C) → OnOpened (bound P C)
  unfolding bound bound_and_counted counted bindable
  bound-opened P C h = pick (eqb (length (case_heading C).complete) 0)
    where
      few : (D : Case) → D ≡ C → (b : Bool) (count most : ℕ) → OnOpened (cond b (stopped (too_many count most)) (ready P D (bindings P D)))
      few D e true count most = too_many_lem count most
      few D e false count most = subst (λ (D : Case). Ready P D (bindings P D)) (sym e) h

      -- what can be bound is the case itself
      itself : (D : Case) → bindable C ≡ fine D → D ≡ C
      itself D =
          of_fine (λ D. D ≡ C) (bindable C) D
          (past-faults (λ D. D ≡ C) (families_at C) (family_faults [] C.families) _ (λ _.
          past-faults (λ D. D ≡ C) (booleans_at C) (boolean_faults [] C.booleans) (fine C) (λ _. refl)))

      pick : (b : Bool) → OnOpened (cond b (incomplete (case_heading C).roster) (bound_and_counted P C))
      pick true = (P, C, h.accepted, h.read, refl)
      pick false =
          or_stop_lem (bindable C) (λ C. counted P C (bindings P C)) (bindable_numbered C)
          (λ D e. few D (itself D e) (ltb (case_heading D).most_worlds (world_count P (bindings P D))) _ _)

  pub opened_law : OnOpened (opened plan case room)
  unfolding opened
  opened_law =
      or_stop_lem (checked_plan plan) _ (plan_numbered plan) (λ P p.
      or_stop_lem (read_case P case) _ (case_numbered P case) (λ C c.
      unless_fault_lem (heading_fault P (case_heading C) room) (bound P C) (λ z.
      bound-opened P C (record { accepted = p; read = c; heading = z; bindings = refl }))))

  -- whatever an operation makes of it, if it refuses what is stopped
  from_opened : (make : Opened → Answer) → ((a : Answer) → make (stopped a) ≡ a) → (told (make (opened plan case room))).refusal ≡ 0 → WereRead plan case
  from_opened make same = pick (opened plan case room) opened_law
    where
      pick : (o : Opened) → OnOpened o → (told (make o)).refusal ≡ 0 → WereRead plan case
      pick (stopped a) h e = absurd (h (ap (λ (x : Answer). (told x).refusal) (sym (same a)) ∙ e))
      pick (incomplete r) h e = (h.0, h.1, h.2, h.3)
      pick (ready P C bs) h e = (P, C, h.accepted, h.read)

-- ---- A CASE THAT IS ANSWERED, OR OF WHICH A WORLD IS SHOWN, WAS READ OVER AN ACCEPTED PLAN

pub answered_read : (plan case : List ℕ) (line_room event_room : ℕ) → (told (answer plan case line_room event_room).answer).refusal ≡ 0 → WereRead plan case
unfolding answer
answered_read plan case line_room event_room = from_opened plan case line_room (λ o. (answer_opened line_room event_room o).answer) (λ a. refl)

pub shown_read : (plan case : List ℕ) (number line_room event_room : ℕ) → (told (show plan case number line_room event_room).answer).refusal ≡ 0 → WereRead plan case
unfolding show
shown_read plan case number line_room event_room = from_opened plan case line_room (λ o. (show_opened number line_room event_room o).answer) (λ a. refl)

-- refusal 9 keeps the rules' persons on the roster
pub on-roster : (P : Plan) (h : CaseHeading) (room : ℕ) → heading_fault P h room ≡ 0 → subset (rule_persons P) h.roster ≡ true
unfolding heading_fault mismatched
on-roster P h room e =
    last (eqb h.relation (relation_of P)) (eqb h.scope 0) (eqb h.segment 0) (eqb h.roster 0) (subset (rule_persons P) h.roster)
    (pick h.segment_complete (mismatched P h) (ltb room (line_length * size h.roster)) e)
  where
    pick : (a b c : Bool) → ◌≡◌ {A = ℕ} (cond a (cond b 9 (cond c 12 0)) 8) 0 → b ≡ false
    pick true true c e = absurd (omega arith)
    pick true false c e = refl
    pick false b c e = absurd (omega arith)

    last : (a b c d s : Bool) → (not a || (b || (c || (d || not s)))) ≡ false → s ≡ true
    last false b c d s e = absurd (true≢false e)
    last true true c d s e = absurd (true≢false e)
    last true false true d s e = absurd (true≢false e)
    last true false false true s e = absurd (true≢false e)
    last true false false false true e = refl
    last true false false false false e = absurd (true≢false e)

-- a roster fits a mask
pub roster-fits : (P : Plan) (C : Case) → SoundCase P C → (case_heading C).roster < 2 ^ 64
unfolding case_heading
roster-fits P C S = (sound-heading S).roster
