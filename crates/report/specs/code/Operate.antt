-- The refusals of a case in their order, as the code goes.
use Rattle.std.specs.Prelude.{◌≡◌, cond, List, ℕ, length}
use Rattle.records.specs.paper.Case.{case_heading}
use Rattle.records.specs.code.Decoded.{plan_of, case_of}
use Rattle.records.specs.declared.plan.Plan.{Plan}
use Rattle.records.specs.declared.case.Case.{Case}
use Rattle.report.specs.paper.Operations.{Opened, unless_fault, heading_fault, bound, Outcome, answer_opened, show_opened}
use Rattle.report.specs.declared.Answer.{Answer}
use Rattle.report.specs.declared.run.Wanted.{Wanted}

-- from the heading's refusals on
unfoldable pub headed : Plan → Case → ℕ → Opened
headed plan c line_room = unless_fault (heading_fault (plan_of plan) (case_heading (case_of c)) line_room) (bound (plan_of plan) (case_of c))

-- answering, or showing the world of a number
abbrev pub outcome : Wanted → ℕ → ℕ → Opened → Outcome
outcome w line_room event_room o = cond w.all (answer_opened line_room event_room o) (show_opened w.number line_room event_room o)

pub record Operates (w : Wanted) (o : Opened) (lines₀ lines₁ events₀ events₁ : List ℕ) (r : Answer) : Type 0 where
  pub outcome : record { answer = r; lines = lines₁; events = events₁ } ≡ outcome w (length lines₀) (length events₀) o
