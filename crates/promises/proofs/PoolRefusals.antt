-- Income pooled by unit: what the answer is refused for, then 15; else the answer stays as it is.
use mathlib.Core.Path.{◌≡◌, refl, sym, ap, ◌∙◌, subst}
use mathlib.Core.Bool.{Bool, true, false, cond}
use mathlib.Core.List.{List}
use mathlib.Core.Logic.{◌≢◌}
use Prim.Native.Nat.{ℕ, ◌*◌}
use native.Mathlib.Omega.{arith}
use lib.ListN.{length}
use lib.Dec.{eqb, ltb}
use borrow.Author.Tests.{eqb-true, eqb-false, eq-eqb, ne_eqb}
use Rattle.sets.specs.paper.Sets.{size}
use Rattle.records.specs.paper.Fields.{fine}
use Rattle.records.specs.paper.Plan.{Plan, checked_plan}
use Rattle.records.specs.paper.Case.{Case, read_case, case_heading}
use Rattle.report.specs.paper.Line.{Line}
use Rattle.report.specs.paper.LineAt.{lines_from}
use Rattle.report.specs.paper.EventList.{event_length}
use Rattle.report.specs.declared.Answer.{Answer}
use Rattle.report.specs.declared.Answer.TheVariants.{Accepted, Answered, Refused, TooManyWorlds}
use Rattle.report.specs.paper.Operations.{told, Outcome, refusal, written, Opened, stopped, incomplete, ready, opened, answer_ready, answer_opened, answer}
use Rattle.report.proofs.OpenedLaws.{OnOpened, opened_law}
use Rattle.billing.specs.paper.Pooling.{PoolOutcome, unpooled, pooled_over, pooled_by, pool}
use Rattle.promises.proofs.Blocks.{answered_partition}

-- ---- a case that is not refused has lines, events and worlds: none is answered `Accepted`

abbrev Counted : Answer → Type 0
Counted a = (told a).refusal ≡ 0 → (n e w : ℕ) × (a ≡ Answered n e w)

written-counted : (line_room event_room : ℕ) (ls : List Line) (es : List (List ℕ)) (n : ℕ) → Counted (written line_room event_room ls es n).answer
unfolding written
written-counted line_room event_room ls es n = either (ltb event_room (event_length * length es)) _ _ (λ h. absurd (omega arith)) (λ h. (length ls, length es, n, refl))
  where
    either : (b : Bool) (x y : Outcome) → Counted x.answer → Counted y.answer → Counted (cond b x y).answer
    either true x y h k = h
    either false x y h k = k

answer-counted : (plan case : List ℕ) (line_room event_room : ℕ) → Counted (answer plan case line_room event_room).answer
unfolding answer answer_ready
answer-counted plan case line_room event_room = pick (opened plan case line_room) (opened_law plan case line_room)
  where
    pick : (o : Opened) → OnOpened plan case line_room o → Counted (answer_opened line_room event_room o).answer
    pick (stopped a) h e = absurd (h e)
    pick (incomplete roster) h e = written-counted line_room event_room _ _ _ e
    pick (ready P C bs) h e = written-counted line_room event_room _ _ _ e

module _ (plan case amounts : List ℕ) (line_room event_room : ℕ) where
  abbrev answered : Outcome
  answered = answer plan case line_room event_room

  abbrev pooling : PoolOutcome
  pooling = pool plan case amounts line_room event_room

  abbrev fifteen : PoolOutcome
  fifteen = unpooled (refusal line_room event_room (Refused 15 0))

  -- the pools of an answer's lines
  abbrev over : Answer → PoolOutcome
  over a = pooled_over (lines_from answered.lines 0 (told a).lines) amounts answered

  -- what is not refused is pooled if the list is as long as there are lines
  by_count : (told answered.answer).refusal ≡ 0 → pooling ≡ cond (eqb (length amounts) (told answered.answer).lines) (over answered.answer) fifteen
  unfolding pool
  by_count h =
      subst (λ (a : Answer). pooled_by amounts line_room event_room answered a ≡ cond (eqb (length amounts) (told a).lines) (over a) fifteen)
      (sym (answer-counted plan case line_room event_room h).3) refl

  pub pool-over : (told (answer plan case line_room event_room).answer).refusal ≡ 0 → length amounts ≡ (told (answer plan case line_room event_room).answer).lines
      → pool plan case amounts line_room event_room
      ≡ pooled_over (lines_from (answer plan case line_room event_room).lines 0 (told (answer plan case line_room event_room).answer).lines) amounts
      (answer plan case line_room event_room)
  pool-over h e = by_count h ∙ ap (λ (b : Bool). cond b (over answered.answer) fifteen) (eq-eqb _ _ e)

  other_length : (told answered.answer).refusal ≡ 0 → length amounts ≢ (told answered.answer).lines → pooling ≡ fifteen
  other_length h n = by_count h ∙ ap (λ (b : Bool). cond b (over answered.answer) fifteen) (ne_eqb _ _ n)

  -- WHAT THE ANSWER IS REFUSED FOR: it stays as it is, with no units
  pub pool-refused : (told (answer plan case line_room event_room).answer).refusal ≢ 0
      → pool plan case amounts line_room event_room ≡ unpooled (answer plan case line_room event_room)
  unfolding pool
  pool-refused = go answered.answer
    where
      go : (a : Answer) → (told a).refusal ≢ 0 → pooled_by amounts line_room event_room answered a ≡ unpooled answered
      go Accepted h = refl
      go (Answered n e w) h = absurd (h refl)
      go (Refused n k) h = refl
      go (TooManyWorlds c m) h = refl

  -- THEN 15, THE LIST'S LENGTH IS NOT THE ROSTER'S: both buffers are all zero
  pub pool_fifteen : (P : Plan) (C : Case) → checked_plan plan ≡ fine P → read_case P case ≡ fine C
      → (told (answer plan case line_room event_room).answer).refusal ≡ 0 → length amounts ≢ size (case_heading C).roster
      → pool plan case amounts line_room event_room ≡ unpooled (refusal line_room event_room (Refused 15 0))
  pool_fifteen P C accepted read h n = other_length h (λ e. n (e ∙ (answered_partition plan case line_room event_room h P C accepted read).count))

  -- ELSE ANSWER AND BUFFERS ARE WHAT THE ANSWER GIVES
  pub pool_answered : (P : Plan) (C : Case) → checked_plan plan ≡ fine P → read_case P case ≡ fine C
      → (told (answer plan case line_room event_room).answer).refusal ≡ 0 → length amounts ≡ size (case_heading C).roster
      → (pool plan case amounts line_room event_room).outcome ≡ answer plan case line_room event_room
  unfolding pooled_over
  pool_answered P C accepted read h e =
      ap (λ (r : PoolOutcome). r.outcome) (pool-over h (e ∙ sym (answered_partition plan case line_room event_room h P C accepted read).count))

  -- so what is not refused was answered, and the list is as long as there are lines
  pub not-refused : (told (pool plan case amounts line_room event_room).outcome.answer).refusal ≡ 0
      → ((told (answer plan case line_room event_room).answer).refusal ≡ 0) × (length amounts ≡ (told (answer plan case line_room event_room).answer).lines)
  not-refused h = first (eqb (told answered.answer).refusal 0) refl
    where
      number : {r : PoolOutcome} → pooling ≡ r → (told r.outcome.answer).refusal ≡ 0
      number e = subst (λ (r : PoolOutcome). (told r.outcome.answer).refusal ≡ 0) e h

      second : (b : Bool) → (told answered.answer).refusal ≡ 0 → eqb (length amounts) (told answered.answer).lines ≡ b
          → ((told answered.answer).refusal ≡ 0) × (length amounts ≡ (told answered.answer).lines)
      second true z e = (z, eqb-true _ _ e)
      second false z e = let f = number (other_length z (eqb-false _ _ e)) in absurd (omega (arith, f))

      first : (b : Bool) → eqb (told answered.answer).refusal 0 ≡ b → ((told answered.answer).refusal ≡ 0) × (length amounts ≡ (told answered.answer).lines)
      first true e = second (eqb (length amounts) (told answered.answer).lines) (eqb-true _ _ e) refl
      first false e = absurd (eqb-false _ _ e (number (pool-refused (eqb-false _ _ e))))
