-- What is made once for a case: the sets that a closing goes by, the bound facts, whom each fact touches, and the unresolved decisions with
-- whom they touch.
use Rattle.std.specs.Prelude.{◌≡◌, ◌≤◌, take}
use Rattle.expressions.specs.paper.Rules.{rule_sets, fact_count}
use Rattle.expressions.specs.paper.Influence.{Frame, bound_facts, touches, open_decisions, decision_touches}
use Rattle.expressions.specs.code.Coded.{Holds}
use Rattle.expressions.specs.code.Undecided.{opens_of}
use Rattle.expressions.specs.declared.reach.Reach.{Reach}

pub record Reached (F : Frame) (r : Reach) : Type 0 where
  pub groups : take r.groups.count r.groups.sets ≡ rule_sets F.plan
  pub bound : r.bound ≡ bound_facts F
  pub count : r.count ≡ fact_count F.plan
  pub few : r.count ≤ 64
  pub facts : Holds 0 r.facts (touches F)
  pub opens : opens_of r.undecided ≡ open_decisions F.plan
  pub sixteen : r.undecided.count ≤ 16
  pub decisions : Holds 0 r.decisions (decision_touches F)
