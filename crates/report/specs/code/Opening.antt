-- The refusals of a case's heading, as the code finds them.
use Rattle.std.specs.Prelude.{◌≡◌, ℕ, take}
use Rattle.records.specs.paper.Plan.{Plan}
use Rattle.records.specs.code.Decoded.{case_heading_of, statuses_of}
use Rattle.records.specs.declared.case.CaseHeading.{CaseHeading}
use Rattle.records.specs.declared.plan.Statuses.{Statuses}
use Rattle.expressions.specs.paper.Rules.{rule_sets, rule_persons}
use Rattle.expressions.specs.declared.groups.Groups.{Groups}
use Rattle.report.specs.paper.Operations.{relation_of, heading_fault}

abbrev pub itself : ℕ → ℕ
itself s = s

pub record RulePersons (groups : Groups) (statuses : Statuses) (r : ℕ) : Type 0 where
  pub at : (P : Plan) → take groups.count groups.sets ≡ rule_sets P → P.statuses ≡ statuses_of statuses → r ≡ rule_persons P

pub record HeadingFault (heading : CaseHeading) (relation persons room r : ℕ) : Type 0 where
  pub at : (P : Plan) → relation ≡ relation_of P → persons ≡ rule_persons P → r ≡ heading_fault P (case_heading_of heading) room
