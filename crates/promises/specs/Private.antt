-- DEMAND 3 as a statement about bytes: those that are offered, and those of the lent buffer at a line's place.
-- It stands over what it means that a fact touches a person's circle and that two facts are bound alike, so that the statement of the paper
-- and those that leave out a part of it are one.
use Rattle.std.specs.Prelude.{◌≡◌, Bool, true, List, ℕ, ◌<◌, get_or}
use Rattle.sets.specs.paper.Sets.{size, members}
use Rattle.records.specs.paper.Fields.{fine}
use Rattle.records.specs.paper.Plan.{Plan, checked_plan}
use Rattle.records.specs.paper.Case.{Case, read_case, case_heading}
use Rattle.expressions.specs.paper.Rules.{fact_count}
use Rattle.expressions.specs.paper.Influence.{Frame, touches_circle}
use Rattle.expressions.specs.paper.Bindings.{Bound, binding_of, frame_of}
use Rattle.report.specs.paper.LineAt.{line_at}
use Rattle.report.specs.paper.Operations.{told, answer}
use Rattle.report.specs.declared.Answer.{Answer}

-- two cases over one plan, what was answered to each and the bytes of its lines: the i-th person of the roster, p, has the same line in both,
-- on a condition
abbrev pub SameBytes : (Condition : Plan → Case → Case → ℕ → Type 0) (plan case₁ case₂ : List ℕ) (answer₁ answer₂ : Answer) (lines₁ lines₂ : List ℕ) → Type 0
SameBytes Condition plan case₁ case₂ answer₁ answer₂ lines₁ lines₂ =
    (P : Plan) (C₁ C₂ : Case)
    -- "A plan is accepted if its check refuses nothing"; two cases are read over it
    → checked_plan plan ≡ fine P
    → read_case P case₁ ≡ fine C₁
    → read_case P case₂ ≡ fine C₂
    -- "a case answered if answering it into the buffers lent for it refuses nothing"
    → (told answer₁).refusal ≡ 0
    → (told answer₂).refusal ≡ 0
    -- "Headings are equal field by field, constraints as lists of nodes"
    → C₁.headings ≡ C₂.headings
    → C₁.constraints ≡ C₂.constraints
    → (i p : ℕ) → i < size (case_heading C₁).roster → get_or (members (case_heading C₁).roster) i 64 ≡ p
    → Condition P C₁ C₂ p
    -- all bytes of the line
    → line_at lines₁ i ≡ line_at lines₂ i

-- whatever bytes are offered; "the two cases' buffers may differ in length"
abbrev pub SameLines : (Condition : Plan → Case → Case → ℕ → Type 0) → Type 0
SameLines Condition =
    (plan case₁ case₂ : List ℕ) (lines₁ events₁ lines₂ events₂ : ℕ)
    → SameBytes Condition plan case₁ case₂ (answer plan case₁ lines₁ events₁).answer (answer plan case₂ lines₂ events₂).answer
    (answer plan case₁ lines₁ events₁).lines (answer plan case₂ lines₂ events₂).lines

-- each fact that touches the person's circle is bound alike
abbrev pub BoundNear : (touches : Frame → ℕ → ℕ → Bool) (Alike : Bound → Bound → Type 0) → Plan → Case → Case → ℕ → Type 0
BoundNear touches Alike P C₁ C₂ p = (f : ℕ) → f < fact_count P → touches (frame_of P C₁) f p ≡ true → Alike (binding_of P C₁ f) (binding_of P C₂ f)

abbrev pub Private : (touches : Frame → ℕ → ℕ → Bool) (Alike : Bound → Bound → Type 0) → Type 0
Private touches Alike = SameLines (BoundNear touches Alike)

-- of what a program has answered and written, with document 01's circles, and "bound alike" as equality of bindings
pub record PrivateLines (plan first second : List ℕ) (a b : Answer) (lines₁ lines₂ : List ℕ) : Type 0 where
  pub same : SameBytes (BoundNear touches_circle ◌≡◌) plan first second a b lines₁ lines₂
