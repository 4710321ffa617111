-- The events of all worlds as bytes: from the tally, the notes and the defaults.
use Rattle.std.specs.Prelude.{◌≡◌, ℕ, ◌+◌, ◌*◌, ◌≤◌, length, take, drop}
use mathlib.Core.List.{List, [], ◌++◌, flat_map}
use Rattle.sets.specs.paper.Sets.{size}
use Rattle.records.specs.paper.Plan as paper
use Rattle.records.specs.paper.Case as case
use Rattle.records.specs.promises.Sound.{Sound}
use Rattle.records.specs.code.Decoded.{plan_of, case_of}
use Rattle.records.specs.declared.plan.Plan.{Plan}
use Rattle.records.specs.declared.case.Case.{Case}
use Rattle.expressions.specs.code.Evident.{ReadCase}
use Rattle.expressions.specs.paper.Rules.{edge_count, cut_count, attachment_count, bar_count, status_count, fact_count}
use Rattle.worlds.specs.code.Tables.{row}
use Rattle.report.specs.paper.EventList.{event_length}
use Rattle.report.specs.code.Happened.{happened}
use Rattle.report.specs.code.EventBytes.{Below, sizes}

-- the events of kinds 1 to 8, in order: `happened` with no components
unfoldable pub by_rules : paper.Plan → case.Case → List (List ℕ) → List (List ℕ) → ℕ → List (List ℕ)
by_rules P C sums noted defaults =
    happened P C (row sums 4 4) (row sums 4 5) (row noted 1) (row noted 2) (row sums 4 6) (row sums 4 7) (row sums 4 8) defaults []

unfoldable pub event_count : List (List ℕ) → List (List ℕ) → ℕ → ℕ → ℕ
event_count sums noted defaults cuts =
    (size (row sums 4 4) + size (row sums 4 5) + size (row sums 4 6) + (size (row sums 4 7) + size (row sums 4 8) + size defaults))
    + (sizes cuts (row noted 1) + sizes cuts (row noted 2))

-- rules keep below their counts, and the events fit
pub record RuleEvents (plan : Plan) (c : Case) (sums noted : List (List ℕ)) (defaults room : ℕ) : Type 0 where
  pub sound : Sound (plan_of plan)
  pub read : ReadCase (case_of c)
  pub edges : Below (row sums 4 4) (edge_count (plan_of plan))
  pub cuts : Below (row sums 4 5) (cut_count (plan_of plan))
  pub attachments : Below (row sums 4 6) (attachment_count (plan_of plan))
  pub bars : Below (row sums 4 7) (bar_count (plan_of plan))
  pub statuses : Below (row sums 4 8) (status_count (plan_of plan))
  pub blocked : (i : ℕ) → Below (row noted 1 i) (edge_count (plan_of plan))
  pub clashed : (i : ℕ) → Below (row noted 2 i) (cut_count (plan_of plan))
  pub facts : Below defaults (fact_count (plan_of plan))
  pub fit : event_length * event_count sums noted defaults (cut_count (plan_of plan)) ≤ room

pub record EventsWritten (P : paper.Plan) (C : case.Case) (sums noted : List (List ℕ)) (defaults : ℕ) (before after : List ℕ) : Type 0 where
  pub bytes : after ≡ flat_map (λ e. e) (by_rules P C sums noted defaults) ++ drop (event_length * length (by_rules P C sums noted defaults)) before
  pub count : length (by_rules P C sums noted defaults) ≡ event_count sums noted defaults (cut_count P)

-- with the events of kind 9 that stood at the start of the buffer behind them, and what lay behind all
pub record AllWritten (P : paper.Plan) (C : case.Case) (sums noted : List (List ℕ)) (defaults count listed : ℕ) (before after : List ℕ) : Type 0 where
  pub bytes : count ≡ event_count sums noted defaults (cut_count P)
      → after ≡ flat_map (λ e. e) (by_rules P C sums noted defaults) ++ (take (event_length * listed) before ++ drop (event_length * (count + listed)) before)
