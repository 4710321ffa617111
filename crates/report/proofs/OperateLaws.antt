-- From the bytes of plan and case to what an operation makes of them: the refusals of reading, then what stands before the worlds are looked at.
use mathlib.Core.Path.{◌≡◌, refl, sym, ap, ap₂, ◌∙◌}
use mathlib.Core.Bool.{Bool, true, false, cond}
use mathlib.Core.List.{List}
use Prim.Native.Nat.{ℕ}
use lib.ListN.{length, replicate}
use borrow.Author.Tests.{eq-eqb, ne_eqb}
use Rattle.page.proofs.ZeroLaws.{zeros-long}
use Rattle.records.specs.paper.Fields.{Verdict, fine, refused}
use Rattle.records.specs.paper.Plan.{Plan, checked_plan}
use Rattle.records.specs.paper.Case.{Case, read_case, case_heading}
use Rattle.records.specs.promises.Sound.{Sound, SoundCase}
use Rattle.records.specs.code.Decoded.{plan_of, case_of}
use Rattle.records.specs.code.PlanRead.{plan_read_of}
use Rattle.records.specs.code.CaseRead.{case_read_of}
use Rattle.records.specs.declared.plan.Plan.{Plan as Coded}
use Rattle.records.specs.declared.case.Case.{Case as CodedCase}
use Rattle.records.specs.declared.plan.reading.PlanRead.{PlanRead}
use Rattle.records.specs.declared.case.reading.CaseRead.{CaseRead}
use Rattle.records.proofs.Accepted.{accepted}
use Rattle.records.proofs.AcceptedCase.{accepted_case}
use Rattle.expressions.specs.paper.Bindings.{bindings}
use Rattle.report.specs.paper.Operations.{heading_fault, Opened, stopped, incomplete, ready, or_stop, unless_fault, bound, opened, Outcome, refusal, answer_opened, answer, show_opened, show}
use Rattle.report.specs.code.Operate.{headed, outcome, Operates}
use Rattle.report.specs.code.Open.{opened_of, OpensCase}
use Rattle.report.specs.code.Bare.{worldless, Worldless}
use Rattle.report.specs.code.Ready.{ready_outcome, AnswersReady}
use Rattle.report.specs.declared.Answer.{Answer}
use Rattle.report.specs.declared.Answer.TheVariants.{Refused}
use Rattle.report.specs.declared.open.Opened.{Opened as CodedOpened}
use Rattle.report.specs.declared.open.Stop.{Stop}
use Rattle.report.specs.declared.run.Wanted.{Wanted}

-- ---- plan and case as they were read

module _ (s : List ℕ) (r : PlanRead) (e : plan_read_of r ≡ checked_plan s) where
  plan-fine : r.number ≡ 0 → checked_plan s ≡ fine (plan_of r.plan)
  unfolding plan_read_of
  plan-fine z = sym e ∙ ap (λ (b : Bool). cond b (fine (plan_of r.plan)) (refused r.number r.«record»)) (eq-eqb r.number 0 z)

  plan-refused : (r.number ≡ 0 → ⊥) → checked_plan s ≡ refused r.number r.«record»
  unfolding plan_read_of
  plan-refused n = sym e ∙ ap (λ (b : Bool). cond b (fine (plan_of r.plan)) (refused r.number r.«record»)) (ne_eqb r.number 0 n)

  pub plan-sound : r.number ≡ 0 → Sound (plan_of r.plan)
  plan-sound z = accepted s (plan_of r.plan) (plan-fine z)

  module _ (t : List ℕ) (room : ℕ) where
    -- what follows an accepted plan
    abbrev rest : Plan → Opened
    rest P = or_stop (read_case P t) (λ C. unless_fault (heading_fault P (case_heading C) room) (bound P C))

    pub plan_stops : (r.number ≡ 0 → ⊥) → opened s t room ≡ stopped (Refused r.number r.«record»)
    unfolding opened
    plan_stops n = ap (λ (v : Verdict Plan). or_stop v rest) (plan-refused n)

    module _ (z : r.number ≡ 0) (q : CaseRead) (k : case_read_of q ≡ read_case (plan_of r.plan) t) where
      abbrev P : Plan
      P = plan_of r.plan

      -- what follows a case that is read
      abbrev last : Case → Opened
      last C = unless_fault (heading_fault P (case_heading C) room) (bound P C)

      case-fine : q.number ≡ 0 → read_case P t ≡ fine (case_of q.case)
      unfolding case_read_of
      case-fine y = sym k ∙ ap (λ (b : Bool). cond b (fine (case_of q.case)) (refused q.number q.«record»)) (eq-eqb q.number 0 y)

      case-refused : (q.number ≡ 0 → ⊥) → read_case P t ≡ refused q.number q.«record»
      unfolding case_read_of
      case-refused n = sym k ∙ ap (λ (b : Bool). cond b (fine (case_of q.case)) (refused q.number q.«record»)) (ne_eqb q.number 0 n)

      pub case-sound : q.number ≡ 0 → SoundCase P (case_of q.case)
      case-sound y = accepted_case P t (case_of q.case) (case-fine y)

      pub case_stops : (q.number ≡ 0 → ⊥) → opened s t room ≡ stopped (Refused q.number q.«record»)
      unfolding opened
      case_stops n = ap (λ (v : Verdict Plan). or_stop v rest) (plan-fine z) ∙ ap (λ (v : Verdict Case). or_stop v last) (case-refused n)

      -- what a case that is read stands at, by what the code found to stop it
      pub case-opened : q.number ≡ 0 → (o : CodedOpened) → OpensCase r.plan q.case room o → {x : Stop} → o.stop ≡ x → opened s t room ≡ opened_of r.plan q.case x
      unfolding opened headed
      case-opened y o h e =
          ap (λ (v : Verdict Plan). or_stop v rest) (plan-fine z) ∙ ap (λ (v : Verdict Case). or_stop v last) (case-fine y)
          ∙ h.opened ∙ ap (opened_of r.plan q.case) e

-- ---- what an operation makes of it

module _ (w : Wanted) where
  abbrev made : Answer → List ℕ → List ℕ → Outcome
  made a l e = record { answer = a; lines = l; events = e }

  by_wanted : (l e : ℕ) (o : Opened) (b : Bool) → w.all ≡ b → outcome w l e o ≡ cond b (answer_opened l e o) (show_opened w.number l e o)
  by_wanted l e o b h = ap (λ (b : Bool). cond b (answer_opened l e o) (show_opened w.number l e o)) h

  -- of both buffers as they came in and as they are left: nothing but zeros where it stops
  pub stops : (a : Answer) (l₀ l₁ e₀ e₁ : List ℕ) {o : Opened} → o ≡ stopped a → l₁ ≡ replicate (length l₀) 0 → e₁ ≡ replicate (length e₀) 0 → Operates w o l₀ l₁ e₀ e₁ a
  stops a l₀ l₁ e₀ e₁ h z n = record { outcome = ap₂ (λ (l e : List ℕ). made a l e) z n ∙ either w.all ∙ ap (λ (o : Opened). outcome w (length l₀) (length e₀) o) (sym h) }
    where
      either : (b : Bool) → refusal (length l₀) (length e₀) a ≡ cond b (refusal (length l₀) (length e₀) a) (refusal (length l₀) (length e₀) a)
      either true = refl
      either false = refl

  -- buffers that were cleared are as long as they were
  pub cleared : (a : Answer) (l₀ l l₁ e₀ e e₁ : List ℕ) (o : ℕ → Opened) → l ≡ replicate (length l₀) 0 → e ≡ replicate (length e₀) 0
      → Operates w (o (length l)) l l₁ e e₁ a → Operates w (o (length l₀)) l₀ l₁ e₀ e₁ a
  cleared a l₀ l l₁ e₀ e e₁ o z n k =
      record { outcome = k.outcome ∙ ap₂ (λ (x y : ℕ). outcome w x y (o x)) (zeros-long l (length l₀) z) (zeros-long e (length e₀) n) }

  pub ready-outcome : (plan : Coded) (c : CodedCase) (a : Answer) (l₀ l₁ e₀ e₁ : List ℕ) {o : Opened} → o ≡ ready (plan_of plan) (case_of c) (bindings (plan_of plan) (case_of c))
      → AnswersReady plan c w l₀ l₁ e₀ e₁ a → Operates w o l₀ l₁ e₀ e₁ a
  unfolding ready_outcome
  ready-outcome plan c a l₀ l₁ e₀ e₁ h k = record { outcome = k.outcome ∙ ap (λ (o : Opened). outcome w (length l₀) (length e₀) o) (sym h) }

  -- ---- a roster that is not complete

  module _ (roster : ℕ) (l₀ e₀ : List ℕ) (z : l₀ ≡ replicate (length l₀) 0) (n : e₀ ≡ replicate (length e₀) 0) {o : Opened} (h : o ≡ incomplete roster) where
    pub bare : (l₁ : List ℕ) (a : Answer) → Worldless w 5 roster l₀ l₁ a → Operates w o l₀ l₁ e₀ e₀ a
    unfolding worldless
    bare l₁ a k = record { outcome = ap (λ (e : List ℕ). made a l₁ e) n ∙ k.at (length e₀) z ∙ ap (λ (o : Opened). outcome w (length l₀) (length e₀) o) (sym h) }

-- ---- answering and showing

pub answers : (s t l₀ l₁ e₀ e₁ : List ℕ) (a : Answer) (w : Wanted) → w.all ≡ true → Operates w (opened s t (length l₀)) l₀ l₁ e₀ e₁ a
    → ◌≡◌ {A = Outcome} (record { answer = a; lines = l₁; events = e₁ }) (answer s t (length l₀) (length e₀))
unfolding answer
answers s t l₀ l₁ e₀ e₁ a w h k =
    k.outcome ∙ by_wanted w (length l₀) (length e₀) (opened s t (length l₀)) true h

pub shows : (s t l₀ l₁ e₀ e₁ : List ℕ) (a : Answer) (w : Wanted) → w.all ≡ false → Operates w (opened s t (length l₀)) l₀ l₁ e₀ e₁ a
    → ◌≡◌ {A = Outcome} (record { answer = a; lines = l₁; events = e₁ }) (show s t w.number (length l₀) (length e₀))
unfolding show
shows s t l₀ l₁ e₀ e₁ a w h k =
    k.outcome ∙ by_wanted w (length l₀) (length e₀) (opened s t (length l₀)) false h
