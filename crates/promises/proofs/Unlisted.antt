-- A line names the open facts whose influence holds its person (`open_named`). Another fact can still change it: marks spread over influence sets that
-- meet each other, so an answer far off can take a mark away, or what carried it. Two examples, and what the first refutes.
use mathlib.Core.Path.{◌≡◌, refl, sym, ap, ◌∙◌, subst}
use mathlib.Core.Bool.{true}
use mathlib.Core.List.{List, [], ◌∷◌, ◌++◌, map}
use Prim.Native.Nat.{ℕ, zero, suc, ◌<◌}
use native.Mathlib.Omega.{arith}
use Rattle.sets.specs.paper.Sets.{has}
use Rattle.sets.proofs.Local.{clash}
use Rattle.records.specs.paper.Fields.{Verdict, fine}
use Rattle.records.specs.paper.Plan.{Plan, checked_plan}
use Rattle.records.specs.paper.Case.{Case, CaseHeading, read_case}
use Rattle.expressions.specs.paper.Rules.{fact_count}
use Rattle.expressions.specs.paper.Bindings.{Bound, unknown, binding_of}
use Rattle.report.specs.paper.LineAt.{line_at, decoded}
use Rattle.report.specs.paper.Operations.{Outcome, told, answer}
use Rattle.promises.specs.Partitioned.{kind_at}
use Rattle.promises.specs.OpenNamed.{facts_at, Undecided}
use Rattle.promises.proofs.Computing.{computing}
use Rattle.promises.proofs.Starred.{plain, always, base, roster₀, row, Starred, found, expected}
use Rattle.promises.proofs.Sanity.{boolean, related, node, status_if, seen, complete, line_room, event_room, plan_of, case_of}

-- ---- two examples

-- fact 0 joins 1–2 and 2–3, which marks the three at discretion where it holds; fact 1 names 0 and 1, and excludes 1 where it holds
abbrev plan : List ℕ
plan = plain ++ (boolean ++ (related 1 0 1 ++ (node 0 ++ (node 1 ++ (base 1 2 0 ++ (base 2 3 0 ++ status_if 1 1))))))

-- neither fact is answered; fact 0 is answered, with no
abbrev before : List ℕ
before = roster₀ 0b1111

abbrev after : List ℕ
after = roster₀ 0b1111 ++ seen 0

-- 2–3 and 3–4 are joined always; fact 0 names 0 and 1 and excludes 1, fact 1 names 1 and 2 and excludes 2, where they hold
abbrev carried : List ℕ
carried = plain ++ (related 1 0 1 ++ (related 2 1 2 ++ (always ++ (node 0 ++ (node 1 ++ (base 2 3 0 ++ (base 3 4 0 ++ (status_if 1 1 ++ status_if 2 2))))))))

-- its lines once fact 1 is answered
abbrev parted : List (List ℕ)
parted = row 0 0 1 0b00001 0 0 0 ∷ row 1 2 0 0b00010 0b01 0 0b10000 ∷ row 2 4 0 0 0 0 0 ∷ row 3 4 0 0 0 0 0 ∷ row 4 4 0 0 0 0 0 ∷ []

unfoldable pub example : List Starred
example =
    -- a mark less: person 0 is at discretion, by the influence of fact 1, and only fact 1 is named; with fact 0 answered the person is decided
    record {
      plan = plan;
      case = before;
      worlds = 4;
      lines = row 0 4 0 0 0b10 0 0 ∷ row 1 4 0 0 0b11 0 0 ∷ row 2 4 0 0 0b11 0 0 ∷ row 3 4 0 0 0b11 0 0 ∷ [];
    } ∷
    record {
      plan = plan;
      case = after;
      worlds = 2;
      lines = row 0 0 1 0b0001 0 0 0 ∷ row 1 2 0 0b0010 0b10 0 0b10000 ∷ row 2 0 1 0b0100 0 0 0 ∷ row 3 0 1 0b1000 0 0 0 ∷ [];
    } ∷
    -- what carried it less: the mark of 2, 3 and 4 comes by the influence of fact 1 to 1, and by that of fact 0, which alone is named, to 0; with fact 1
    -- answered, no or yes, person 0 is decided
    record {
      plan = carried;
      case = roster₀ 0b11111;
      worlds = 4;
      lines = row 0 4 0 0 0b01 0 0 ∷ row 1 4 0 0 0b11 0 0 ∷ row 2 4 0 0 0b10 0 0 ∷ row 3 4 0 0 0b10 0 0 ∷ row 4 4 0 0 0b10 0 0 ∷ [];
    } ∷
    record { plan = carried; case = roster₀ 0b11111 ++ complete 2; worlds = 2; lines = parted } ∷
    record { plan = carried; case = roster₀ 0b11111 ++ (2 ∷ 0b11 ∷ 2 ∷ 1 ∷ 4 ∷ 0b111 ∷ 1 ∷ 1 ∷ 3 ∷ []); worlds = 2; lines = parted } ∷ []

pub unlisted_lines : map found example ≡ map expected example
unfolding example computing
unlisted_lines = refl

-- ---- what the first refutes: that a line stays while each fact that it names is bound as before

abbrev pub NamedDecide : Type 0
NamedDecide =
    (plan case₁ case₂ : List ℕ) (line_room event_room : ℕ) (P : Plan) (C₁ C₂ : Case)
    → checked_plan plan ≡ fine P
    → read_case P case₁ ≡ fine C₁
    → read_case P case₂ ≡ fine C₂
    → (told (answer plan case₁ line_room event_room).answer).refusal ≡ 0
    → (told (answer plan case₂ line_room event_room).answer).refusal ≡ 0
    → C₁.headings ≡ C₂.headings
    → C₁.constraints ≡ C₂.constraints
    → (k : ℕ) → k < (told (answer plan case₁ line_room event_room).answer).lines → Undecided (kind_at (answer plan case₁ line_room event_room).lines k)
    → ((f : ℕ) → f < fact_count P → has (facts_at (answer plan case₁ line_room event_room).lines k) f ≡ true → binding_of P C₁ f ≡ binding_of P C₂ f)
    → line_at (answer plan case₁ line_room event_room).lines k ≡ line_at (answer plan case₂ line_room event_room).lines k

abbrev P : Plan
P = plan_of (checked_plan plan)

abbrev C₁ : Case
C₁ = case_of (read_case P before)

abbrev C₂ : Case
C₂ = case_of (read_case P after)

abbrev answer₁ : Outcome
answer₁ = answer plan before line_room event_room

abbrev answer₂ : Outcome
answer₂ = answer plan after line_room event_room

record Computed : Type 0 where
  plan : Verdict Plan
  first : Verdict Case
  second : Verdict Case
  headings : List CaseHeading
  constraints : List ℕ
  refusal₁ : ℕ
  refusal₂ : ℕ
  lines : ℕ
  count : ℕ
  named : ℕ
  kind₁ : ℕ
  kind₂ : ℕ
  fact₁ : Bound
  fact₂ : Bound

computed : ◌≡◌ {A = Computed}
    (record {
      plan = checked_plan plan;
      first = read_case P before;
      second = read_case P after;
      headings = C₁.headings;
      constraints = C₁.constraints;
      refusal₁ = (told answer₁.answer).refusal;
      refusal₂ = (told answer₂.answer).refusal;
      lines = (told answer₁.answer).lines;
      count = fact_count P;
      named = facts_at answer₁.lines 0;
      kind₁ = kind_at answer₁.lines 0;
      kind₂ = kind_at answer₂.lines 0;
      fact₁ = binding_of P C₁ 1;
      fact₂ = binding_of P C₂ 1;
    })
    (record {
      plan = fine P;
      first = fine C₁;
      second = fine C₂;
      headings = C₂.headings;
      constraints = C₂.constraints;
      refusal₁ = 0;
      refusal₂ = 0;
      lines = 4;
      count = 2;
      named = 0b10;
      kind₁ = 4;
      kind₂ = 0;
      fact₁ = unknown;
      fact₂ = unknown;
    })
unfolding kind_at facts_at line_at decoded computing
computed = refl

-- A FACT THAT IS NOT NAMED CAN CHANGE THE LINE
pub unlisted : NamedDecide → ⊥
unfolding kind_at has
unlisted decide =
    let kinds : kind_at answer₁.lines 0 ≡ kind_at answer₂.lines 0 = ap (λ (b : List ℕ). (decoded b).kind) same in
    let k₁ = ap (λ (c : Computed). c.kind₁) computed in
    let k₂ = ap (λ (c : Computed). c.kind₂) computed in
    omega arith
  where
    other : (f : ℕ) → f < 2 → has 0b10 f ≡ true → binding_of P C₁ f ≡ binding_of P C₂ f
    other zero l h = clash h refl
    other (suc zero) l h = ap (λ (c : Computed). c.fact₁) computed ∙ sym (ap (λ (c : Computed). c.fact₂) computed)
    other (suc (suc f)) l h = absurd (omega arith)

    alike : (f : ℕ) → f < fact_count P → has (facts_at answer₁.lines 0) f ≡ true → binding_of P C₁ f ≡ binding_of P C₂ f
    alike f l h =
        other f (subst (λ (n : ℕ). f < n) (ap (λ (c : Computed). c.count) computed) l) (sym (ap (λ (c : Computed). has c.named f) computed) ∙ h)

    same : line_at answer₁.lines 0 ≡ line_at answer₂.lines 0
    same =
        decide plan before after line_room event_room P C₁ C₂ (ap (λ (c : Computed). c.plan) computed) (ap (λ (c : Computed). c.first) computed)
        (ap (λ (c : Computed). c.second) computed) (ap (λ (c : Computed). c.refusal₁) computed) (ap (λ (c : Computed). c.refusal₂) computed)
        (ap (λ (c : Computed). c.headings) computed) (ap (λ (c : Computed). c.constraints) computed) 0
        (let e = ap (λ (c : Computed). c.lines) computed in omega arith)
        (let e = ap (λ (c : Computed). c.kind₁) computed in (omega arith, omega arith)) alike
