-- What stands before the worlds are looked at, as the code finds it.
use Rattle.std.specs.Prelude.{◌≡◌, Bool, true, false, cond, ℕ, zero, suc, ◌≤◌, get_or}
use Rattle.records.specs.code.Decoded.{plan_of, case_of}
use Rattle.records.specs.declared.plan.Plan.{Plan}
use Rattle.records.specs.declared.case.Case.{Case}
use Rattle.records.specs.declared.checked.Checked.{Checked}
use Rattle.records.specs.declared.checked.Checked.TheVariants as checked
use Rattle.expressions.specs.paper.Bindings.{bindings, binding_at}
use Rattle.expressions.specs.paper.Variables.{world_count}
use Rattle.expressions.specs.code.Codes.{bound_of}
use Rattle.expressions.specs.code.Coded.{frame_by}
use Rattle.expressions.specs.code.Reached.{Reached}
use Rattle.expressions.specs.code.Told.{Defaulted}
use Rattle.expressions.specs.declared.variables.Count.{Count}
use Rattle.report.specs.paper.Operations as paper
use Rattle.report.specs.code.Operate.{headed}
use Rattle.report.specs.declared.Answer.TheVariants.{Refused, TooManyWorlds}
use Rattle.report.specs.declared.open.Opened.{Opened}
use Rattle.report.specs.declared.open.Stop.{Stop}
use Rattle.report.specs.declared.open.Stop.TheVariants.{Nothing, Incomplete, Stopped}

-- the heading's refusal, a roster that is not complete, refusals 5 and 10, and 11
unfoldable pub stop_by : ℕ → Bool → Checked → Count → Stop
stop_by (suc fault) complete found count = Stopped (Refused (suc fault) 0)
stop_by zero false found count = Incomplete
stop_by zero true (checked.Refused n k) count = Stopped (Refused n k)
stop_by zero true checked.Accepted count = cond count.refused (Stopped (TooManyWorlds count.count count.maximum)) Nothing

abbrev pub opened_of : Plan → Case → Stop → paper.Opened
opened_of plan c (Stopped a) = paper.stopped a
opened_of plan c Incomplete = paper.incomplete c.heading.roster
opened_of plan c Nothing = paper.ready (plan_of plan) (case_of c) (bindings (plan_of plan) (case_of c))

pub record OpensCase (plan : Plan) (c : Case) (room : ℕ) (r : Opened) : Type 0 where
  pub opened : headed plan c room ≡ opened_of plan c r.stop
  pub reached : Reached (frame_by plan c.heading.roster c.constraints) r.reach
  pub bound : (f : ℕ) → bound_of (get_or r.bound.codes f 0) ≡ binding_at (bindings (plan_of plan) (case_of c)) f
  pub defaulted : Defaulted (plan_of plan) (case_of c) r.reach.bound r.bound.defaults
  pub few : r.stop ≡ Nothing → world_count (plan_of plan) (bindings (plan_of plan) (case_of c)) ≤ 4096
