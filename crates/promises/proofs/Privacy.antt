-- DEMAND 3, strangers' answers do not show: if two cases over one plan bind alike every fact that touches a person's circle, all bytes
-- of that person's line are the same, whatever its kind.
use mathlib.Core.Path.{◌≡◌, refl, sym, ap, ap₂, ◌∙◌, subst}
use mathlib.Core.Bool.{Bool, true, cond}
use mathlib.Core.List.{List, [], map}
use Prim.Native.Nat.{ℕ, ◌<◌}
use lib.ListN.{length, get_or, length-map, get_or-map}
use lib.Dec.{eqb}
use Rattle.sets.specs.paper.Sets.{has, size, members}
use Rattle.records.specs.paper.Fields.{fine}
use Rattle.records.specs.paper.Plan.{Plan, checked_plan}
use Rattle.records.specs.paper.Case.{Case, CaseHeading, read_case, case_heading}
use Rattle.sets.proofs.MemberLaws.{members-length, member_at}
use Rattle.expressions.specs.paper.Rules.{fact_count}
use Rattle.expressions.specs.paper.Influence.{Frame, touches_circle}
use Rattle.expressions.specs.paper.Bindings.{unbound, binding_of, bindings, frame_of}
use Rattle.expressions.proofs.ListLaws.{below_at}
use Rattle.expressions.proofs.Similar.{BoundAlike}
use Rattle.report.specs.paper.Line.{Line, line_bytes, bare_line}
use Rattle.report.specs.paper.LineAt.{line_at}
use Rattle.report.specs.declared.Answer.{Answer}
use Rattle.report.specs.paper.Operations.{told, Outcome, answer}
use Rattle.report.proofs.LinesAt.{line_at_lem}
use Rattle.report.proofs.Answered.{line_of, line_for, answered_lines}
use Rattle.promises.proofs.LinePrivate.{line_private}
use Rattle.promises.specs.Private.{SameLines, Private, PrivateLines}

-- ---- two cases

-- a fact past the last is bound in no case
bindings_alike : (P : Plan) (C₁ C₂ : Case) (F : Frame) (p : ℕ) → F.plan ≡ P
    → ((f : ℕ) → f < fact_count P → touches_circle F f p ≡ true → binding_of P C₁ f ≡ binding_of P C₂ f) → BoundAlike F p (bindings P C₁) (bindings P C₂)
unfolding bindings
bindings_alike P C₁ C₂ F p same h f t =
    below_at (fact_count P) (binding_of P C₁) (binding_of P C₂) unbound f (λ l. h f l (t (subst (λ (Q : Plan). f < fact_count Q) (sym same) l)))

same-heading : (C₁ C₂ : Case) → C₁.headings ≡ C₂.headings → case_heading C₁ ≡ case_heading C₂
unfolding case_heading
same-heading C₁ C₂ h = ap (λ (hs : List CaseHeading). case_heading (record { headings = hs; families = []; booleans = []; relations = []; constraints = [] })) h

same_frame : (P : Plan) (C₁ C₂ : Case) → C₁.headings ≡ C₂.headings → C₁.constraints ≡ C₂.constraints → frame_of P C₁ ≡ frame_of P C₂
same_frame P C₁ C₂ h k = λ i. record { plan = P; roster = (same-heading C₁ C₂ h i).roster; constraints = k i }

case_private : (P : Plan) (C₁ C₂ : Case) → C₁.headings ≡ C₂.headings → C₁.constraints ≡ C₂.constraints
    → (p : ℕ) → has (case_heading C₁).roster p ≡ true
    → ((f : ℕ) → f < fact_count P → touches_circle (frame_of P C₁) f p ≡ true → binding_of P C₁ f ≡ binding_of P C₂ f)
    → line_for P C₁ p ≡ line_for P C₂ p
unfolding line_for
case_private P C₁ C₂ h k p r t =
    ap₂ (λ (b : Bool) (l : Line). cond b (bare_line 5 p) l) (ap (λ (g : CaseHeading). eqb (length g.complete) 0) (same-heading C₁ C₂ h))
    (line_private (frame_of P C₁) p r (bindings P C₁) (bindings P C₂) (bindings_alike P C₁ C₂ (frame_of P C₁) p refl t)
    ∙ ap (λ (F : Frame). line_of F (bindings P C₂) p) (same_frame P C₁ C₂ h k))

case-incomplete : (P : Plan) (C₁ C₂ : Case) → C₁.headings ≡ C₂.headings → C₁.constraints ≡ C₂.constraints
    → (p : ℕ) → has (case_heading C₁).roster p ≡ true → (case_heading C₁).complete ≡ [] → line_for P C₁ p ≡ line_for P C₂ p
unfolding line_for
case-incomplete P C₁ C₂ h k p r e =
    bare (case_heading C₁).complete _ e ∙ sym (bare (case_heading C₂).complete _ (ap (λ (g : CaseHeading). g.complete) (sym (same-heading C₁ C₂ h)) ∙ e))
  where
    bare : (s : List ℕ) (l : Line) → s ≡ [] → cond (eqb (length s) 0) (bare_line 5 p) l ≡ bare_line 5 p
    bare s l e = ap (λ (s : List ℕ). cond (eqb (length s) 0) (bare_line 5 p) l) e

-- the bytes of the i-th roster person in the lines of an answered case
pub line-bytes : (plan case : List ℕ) (l e : ℕ) (P : Plan) (C : Case) → checked_plan plan ≡ fine P → read_case P case ≡ fine C
    → (told (answer plan case l e).answer).refusal ≡ 0 → (i : ℕ) → i < size (case_heading C).roster
    → line_at (answer plan case l e).lines i ≡ line_bytes (line_for P C (get_or (members (case_heading C).roster) i 64))
unfolding line_at
line-bytes plan case l e P C accepted read answered i h =
    ap (λ (s : List ℕ). line_at s i) (answered_lines plan case l e P C accepted read answered)
    ∙ line_at_lem l (map (line_for P C) people) i (line_for P C 64) (subst (λ (n : ℕ). i < n) (sym (length-map people (line_for P C) ∙ members-length (case_heading C).roster)) h)
    ∙ ap line_bytes (get_or-map (line_for P C) people i 64)
  where
    people : List ℕ
    people = members (case_heading C).roster

-- from lines to bytes
same_lines : (Condition : Plan → Case → Case → ℕ → Type 0)
    → ((P : Plan) (C₁ C₂ : Case) → C₁.headings ≡ C₂.headings → C₁.constraints ≡ C₂.constraints → (p : ℕ) → has (case_heading C₁).roster p ≡ true
    → Condition P C₁ C₂ p → line_for P C₁ p ≡ line_for P C₂ p)
    → SameLines Condition
same_lines Condition same_line plan case₁ case₂ l₁ e₁ l₂ e₂ P C₁ C₂ accepted read₁ read₂ answered₁ answered₂ h k i p low place condition =
    line-bytes plan case₁ l₁ e₁ P C₁ accepted read₁ answered₁ i low
    ∙ ap line_bytes (ap (line_for P C₁) place ∙ same_line P C₁ C₂ h k p person condition ∙ ap (line_for P C₂) (sym (sym same ∙ place)))
    ∙ sym (line-bytes plan case₂ l₂ e₂ P C₂ accepted read₂ answered₂ i (subst (λ (r : ℕ). i < size r) roster low))
  where
    roster : (case_heading C₁).roster ≡ (case_heading C₂).roster
    roster = ap (λ (F : Frame). F.roster) (same_frame P C₁ C₂ h k)

    same : get_or (members (case_heading C₁).roster) i 64 ≡ get_or (members (case_heading C₂).roster) i 64
    same = ap (λ (r : ℕ). get_or (members r) i 64) roster

    person : has (case_heading C₁).roster p ≡ true
    person =
        ap (has (case_heading C₁).roster) (sym place)
        ∙ member_at (case_heading C₁).roster 64 i (subst (λ (n : ℕ). i < n) (sym (members-length (case_heading C₁).roster)) low)

-- ---- THE THEOREM: with document 01's circles, and "bound alike" as equality of bindings
pub privacy : Private touches_circle ◌≡◌
privacy = same_lines _ case_private

-- "With an incomplete roster demand 3 holds whatever the facts"
pub incomplete-roster : SameLines (λ P C₁ C₂ p. (case_heading C₁).complete ≡ [])
incomplete-roster = same_lines _ case-incomplete

-- ---- of what a program answered and wrote, where both are what answering gives

pub private_lines : (s t₁ t₂ : List ℕ) (l₁ e₁ l₂ e₂ : ℕ) (a₁ a₂ : Answer) (L₁ E₁ L₂ E₂ : List ℕ)
    → ◌≡◌ {A = Outcome} (record { answer = a₁; lines = L₁; events = E₁ }) (answer s t₁ l₁ e₁)
    → ◌≡◌ {A = Outcome} (record { answer = a₂; lines = L₂; events = E₂ }) (answer s t₂ l₂ e₂)
    → PrivateLines s t₁ t₂ a₁ a₂ L₁ L₂
private_lines s t₁ t₂ l₁ e₁ l₂ e₂ a₁ a₂ L₁ E₁ L₂ E₂ h₁ h₂ = record {
  same = λ P C₁ C₂ accepted read₁ read₂ answered₁ answered₂ h k i p low place condition.
      ap (λ (o : Outcome). line_at o.lines i) h₁
      ∙ privacy s t₁ t₂ l₁ e₁ l₂ e₂ P C₁ C₂ accepted read₁ read₂ (ap (λ (o : Outcome). (told o.answer).refusal) (sym h₁) ∙ answered₁)
      (ap (λ (o : Outcome). (told o.answer).refusal) (sym h₂) ∙ answered₂) h k i p low place condition
      ∙ sym (ap (λ (o : Outcome). line_at o.lines i) h₂);
}
