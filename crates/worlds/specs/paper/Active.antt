-- What a valuation says of the rules. Document 01, "World", step 1: "Active edges without an active defeater freeze".
use Rattle.std.specs.Prelude.{Bool, ◌&&◌, ◌||◌, not, List, ℕ, eqb}
use Rattle.sets.specs.paper.Sets.{has, below, any_below, any_of}
use Rattle.records.specs.paper.Plan.{Plan}
use Rattle.expressions.specs.paper.Rules.{edge_count, cut_count, attachment_count, bar_count, status_count, edge, cut, attachment, bar, status}
use Rattle.expressions.specs.paper.Nodes.{on, values}
use Rattle.expressions.specs.paper.Influence.{says, decision_count, open_decision}
use Rattle.expressions.specs.paper.Variables.{Values}

pub record Active : Type 0 where
  -- an answer for each rule of the kind
  pub frozen : List Bool
  pub cuts : List Bool
  pub attachments : List Bool
  pub bars : List Bool
  pub statuses : List Bool
  -- the decisions that are true
  pub decisions : ℕ

unfoldable pub flags : Plan → List Bool → ℕ → Active
flags P vs decisions = record {
  frozen = below (edge_count P) (λ i. on vs (edge P i).condition && not (any_of (on vs) (edge P i).defeaters));
  cuts = below (cut_count P) (λ i. on vs (cut P i).condition);
  attachments = below (attachment_count P) (λ i. on vs (attachment P i).condition);
  bars = below (bar_count P) (λ i. on vs (bar P i).condition);
  statuses = below (status_count P) (λ i. on vs (status P i).condition);
  decisions = decisions;
}

unfoldable pub active : Plan → Values → Active
active P v = flags P (values P v.facts) v.decisions

-- the cut "says blocked, or unresolved and false"
unfoldable pub blocks_edge : Plan → Active → ℕ → ℕ → Bool
blocks_edge P a c e =
    says P c e 1
    || any_below (decision_count P) (λ d. (eqb (open_decision P d).cut c && eqb (open_decision P d).edge e) && not (has a.decisions d))
