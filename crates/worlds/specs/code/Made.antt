-- What the worlds of a case share, as it is made.
use Rattle.std.specs.Prelude.{◌≡◌, true, ◌&&◌, not, List, [], ◌∷◌, ◌++◌, ℕ, ◌≤◌, take, ltb}
use Rattle.sets.specs.paper.Sets.{has, one, subset, close_of}
use Rattle.records.specs.paper.Plan as paper
use Rattle.records.specs.promises.Sound.{Sound}
use Rattle.records.specs.code.Decoded.{plan_of, edges_of}
use Rattle.records.specs.declared.plan.Edges.{Edges}
use Rattle.records.specs.declared.plan.Plan.{Plan}
use Rattle.expressions.specs.paper.Rules.{edge_count, attachment_count, bar_count, status_count, edge, chained, rule_sets, rule_persons}
use Rattle.expressions.specs.paper.Influence.{open_decisions}
use Rattle.expressions.specs.paper.Variables as variables
use Rattle.expressions.specs.code.Undecided.{opens_of}
use Rattle.expressions.specs.code.Influences.{sets_of}
use Rattle.expressions.specs.declared.decisions.Undecided.{Undecided}
use Rattle.expressions.specs.declared.groups.Groups.{Groups}
use Rattle.expressions.specs.declared.influence.Influence.{Influence}
use Rattle.worlds.specs.code.Tables.{row, Stands}
use Rattle.worlds.specs.code.Laid.{Same}
use Rattle.worlds.specs.declared.tables.Common.{Common}

pub record Combination (edges : Edges) (r : ℕ) : Type 0 where
  pub at : (P : paper.Plan) → P.edges ≡ edges_of edges → (e : ℕ) → has r e ≡ (ltb e (edge_count P) && (edge P e).combination)

-- how far a mark spreads, at each person of the roster
pub record SpreadLaid (rules influence : List ℕ) (roster : ℕ) (before after : List (List ℕ)) : Type 0 where
  pub at : (p : ℕ) → has roster p ≡ true → row after 15 p ≡ close_of rules (close_of influence (one p))
  pub same : Same (15 ∷ []) before after

pub record CommonFor (plan : Plan) (roster : ℕ) (k : Common) : Type 0 where
  pub people : k.roster ≡ roster
  pub base : (e : ℕ) → has k.base e ≡ (ltb e (edge_count (plan_of plan)) && (not (edge (plan_of plan) e).combination && not (chained (plan_of plan))))
  pub attachments : (i : ℕ) → has k.attachments i ≡ ltb i (attachment_count (plan_of plan))
  pub bars : (i : ℕ) → has k.bars i ≡ ltb i (bar_count (plan_of plan))
  pub statuses : (i : ℕ) → has k.statuses i ≡ ltb i (status_count (plan_of plan))

-- an accepted plan, its unresolved decisions, and the sets that a closing goes by
pub record Ready (plan : Plan) (undecided : Undecided) (groups : Groups) : Type 0 where
  pub sound : Sound (plan_of plan)
  pub opens : opens_of undecided ≡ open_decisions (plan_of plan)
  pub sixteen : undecided.count ≤ 16
  pub sets : take groups.count groups.sets ≡ rule_sets (plan_of plan)

-- the tables stand for the plan, on every roster that its rules keep to, with the influence that was given
pub record Made (plan : Plan) (influence : Influence) (roster : ℕ) (t : List (List ℕ)) : Type 0 where
  pub stands : (I : variables.Influence) (k : Common) → I.facts ++ I.decisions ≡ sets_of influence → CommonFor plan roster k
      → subset (rule_persons (plan_of plan)) roster ≡ true → Stands (plan_of plan) I k t
