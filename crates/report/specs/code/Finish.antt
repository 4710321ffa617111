-- The end of an operation: lines and events, or refusal 13 or 14.
use Rattle.std.specs.Prelude.{◌≡◌, Bool, true, false, cond, List, ℕ, ◌+◌, ◌*◌, ◌<◌, ◌≤◌, length, take, drop, replicate}
use Rattle.sets.specs.paper.Sets.{has, size, All}
use Rattle.records.specs.promises.Sound.{Sound, SoundCase}
use Rattle.records.specs.paper.Plan as paper
use Rattle.records.specs.code.Decoded.{plan_of, case_of}
use Rattle.records.specs.declared.plan.Plan.{Plan}
use Rattle.records.specs.declared.case.Case.{Case}
use Rattle.expressions.specs.paper.Rules.{fact_count, edge_count, cut_count, attachment_count, bar_count, status_count}
use Rattle.expressions.specs.paper.Bindings.{Bound, took_default}
use Rattle.expressions.specs.code.Influences.{sets_of}
use Rattle.worlds.specs.paper.World.{World}
use Rattle.worlds.specs.paper.View.{view}
use Rattle.worlds.specs.code.Tables.{row}
use Rattle.report.specs.paper.EventList.{event_length}
use Rattle.report.specs.paper.Line.{line_length}
use Rattle.report.specs.paper.Operations.{Outcome, influences, answer_ready, show_from}
use Rattle.report.specs.code.EventBytes.{Below}
use Rattle.report.specs.code.Kept.{Kept}
use Rattle.report.specs.declared.Answer.{Answer}
use Rattle.report.specs.declared.finish.Opens.{Opens}
use Rattle.report.specs.declared.run.Wanted.{Wanted}
use Rattle.report.specs.declared.walk.Walked.{Walked}

-- what is asked for safety: an accepted plan and case, lines that fit, rules below their counts, sets within their array
pub record Ends (plan : Plan) (c : Case) (o : Opens) (w : Walked) (noted sums : List (List ℕ)) (lines events : List ℕ) : Type 0 where
  pub sound : Sound (plan_of plan)
  pub sane : SoundCase (plan_of plan) (case_of c)
  pub room : line_length * size c.heading.roster ≤ length lines
  pub listed : w.listing.count * event_length ≤ length events
  pub facts : (o.facts ≤ o.influence.count) × (o.facts ≤ 64) × (o.influence.count ≤ o.facts + 16) × (o.influence.count ≤ 80)
  pub edges : Below (row sums 4 4) (edge_count (plan_of plan))
  pub cuts : Below (row sums 4 5) (cut_count (plan_of plan))
  pub attachments : Below (row sums 4 6) (attachment_count (plan_of plan))
  pub bars : Below (row sums 4 7) (bar_count (plan_of plan))
  pub statuses : Below (row sums 4 8) (status_count (plan_of plan))
  pub blocked : (i : ℕ) → Below (row noted 1 i) (edge_count (plan_of plan))
  pub clashed : (i : ℕ) → Below (row noted 2 i) (cut_count (plan_of plan))
  pub defaults : Below o.defaults (fact_count (plan_of plan))

-- in the world everybody of the roster has a block or a kind
pub record Placed (P : paper.Plan) (roster : ℕ) (w : World) : Type 0 where
  pub at : (p : ℕ) → has roster p ≡ true → (view P w p).kind ≡ 0 → (view P w p).block ≡ 0 → ⊥

-- the outcome of an answer over these worlds, or of showing the first of them
unfoldable pub ended : Bool → ℕ → ℕ → Plan → Case → List Bound → ℕ → List World → Outcome
ended all line_room event_room plan c bs n ws =
    cond all (answer_ready line_room event_room (plan_of plan) (case_of c) bs ws) (show_from line_room event_room (plan_of plan) (case_of c) bs n ws)

pub record Finishes (plan : Plan) (c : Case) (o : Opens) (w : Wanted) (walked : Walked) (noted sums : List (List ℕ)) (lines₀ lines₁ events₀ events₁ : List ℕ) (r : Answer) : Type 0 where
  pub at : (bs : List Bound) (ws : List World)
      -- whether a world was looked at is told by its persons
      → (c.heading.roster ≡ 0 → ⊥)
      → All (Placed (plan_of plan) c.heading.roster) ws
      → Kept (plan_of plan) c.heading.roster ws sums noted walked.listing events₀
      → lines₀ ≡ replicate (length lines₀) 0
      → (w.all ≡ true → walked.worlds ≡ length ws)
      → (w.all ≡ false → length ws ≤ 1)
      -- for an answer the influence of the bindings and the defaults that were taken; for a shown world nothing of the two
      → (w.all ≡ true → (take o.facts (sets_of o.influence) ≡ (influences (plan_of plan) (case_of c) bs).facts)
      × (drop o.facts (sets_of o.influence) ≡ (influences (plan_of plan) (case_of c) bs).decisions)
      × ((f : ℕ) → f < fact_count (plan_of plan) → has o.defaults f ≡ took_default (plan_of plan) (case_of c) f))
      → (w.all ≡ false → (o.facts ≡ 0) × (o.influence.count ≡ 0) × (o.defaults ≡ 0))
      → record { answer = r; lines = lines₁; events = events₁ } ≡ ended w.all (length lines₀) (length events₀) plan c bs walked.worlds ws
