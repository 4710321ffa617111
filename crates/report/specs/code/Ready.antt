-- A case that is bound, with no more worlds than its heading allows.
use Rattle.std.specs.Prelude.{◌≡◌, Bool, true, false, cond, List, ℕ, ◌*◌, ◌≤◌, length, get_or, replicate}
use Rattle.sets.specs.paper.Sets.{size, subset}
use Rattle.records.specs.promises.Sound.{Sound, SoundCase}
use Rattle.records.specs.code.Decoded.{plan_of, case_of}
use Rattle.records.specs.declared.plan.Plan.{Plan}
use Rattle.records.specs.declared.case.Case.{Case}
use Rattle.expressions.specs.paper.Rules.{rule_persons}
use Rattle.expressions.specs.paper.Bindings.{bindings, binding_at}
use Rattle.expressions.specs.code.Codes.{bound_of}
use Rattle.expressions.specs.code.Told.{Defaulted}
use Rattle.expressions.specs.paper.Variables.{world_count}
use Rattle.expressions.specs.code.Coded.{frame_by, HoldsUses}
use Rattle.expressions.specs.code.Reached.{Reached}
use Rattle.expressions.specs.code.Influences.{sets_of}
use Rattle.expressions.specs.declared.bindings.Bound.{Bound}
use Rattle.expressions.specs.declared.reach.Reach.{Reach}
use Rattle.expressions.specs.declared.influence.Influence.{Influence}
use Rattle.report.specs.paper.Line.{line_length}
use Rattle.report.specs.paper.Operations.{Outcome, all_worlds, answer_ready, show_ready}
use Rattle.report.specs.declared.Answer.{Answer}
use Rattle.report.specs.declared.finish.Opens.{Opens}
use Rattle.report.specs.declared.run.Wanted.{Wanted}

-- for an answer the sets of influence, the number of facts and the defaults that were taken; nothing for a shown world
pub record Concerns (influence : Influence) (facts defaults : ℕ) (all : Bool) (r : Opens) : Type 0 where
  pub yes : all ≡ true → (sets_of r.influence ≡ sets_of influence) × (r.influence.count ≡ length (sets_of influence)) × (r.facts ≡ facts) × (r.defaults ≡ defaults)
  pub no : all ≡ false → (r.facts ≡ 0) × (r.influence.count ≡ 0) × (r.defaults ≡ 0)

-- all that has passed before the worlds are looked at; the lent buffers are all zero
pub record IsReady (plan : Plan) (c : Case) (reach : Reach) (b : Bound) (uses lines events : List ℕ) : Type 0 where
  pub sound : Sound (plan_of plan)
  pub sane : SoundCase (plan_of plan) (case_of c)
  pub peopled : c.heading.roster ≡ 0 → ⊥
  pub named : subset (rule_persons (plan_of plan)) c.heading.roster ≡ true
  pub textual : HoldsUses plan.nodes uses
  pub reached : Reached (frame_by plan c.heading.roster c.constraints) reach
  pub bound : (f : ℕ) → bound_of (get_or b.codes f 0) ≡ binding_at (bindings (plan_of plan) (case_of c)) f
  pub defaulted : Defaulted (plan_of plan) (case_of c) reach.bound b.defaults
  pub few : world_count (plan_of plan) (bindings (plan_of plan) (case_of c)) ≤ 4096
  pub room : line_length * size c.heading.roster ≤ length lines
  pub zeros : lines ≡ replicate (length lines) 0
  pub none : events ≡ replicate (length events) 0

-- the outcome of answering, or of showing a world, once a case is ready
unfoldable pub ready_outcome : Wanted → ℕ → ℕ → Plan → Case → Outcome
ready_outcome w line_room event_room plan c =
    let bs = bindings (plan_of plan) (case_of c) in
    cond w.all (answer_ready line_room event_room (plan_of plan) (case_of c) bs (all_worlds (plan_of plan) (case_of c) bs))
    (show_ready w.number line_room event_room (plan_of plan) (case_of c) bs (all_worlds (plan_of plan) (case_of c) bs))

pub record AnswersReady (plan : Plan) (c : Case) (w : Wanted) (lines₀ lines₁ events₀ events₁ : List ℕ) (r : Answer) : Type 0 where
  pub outcome : record { answer = r; lines = lines₁; events = events₁ } ≡ ready_outcome w (length lines₀) (length events₀) plan c
