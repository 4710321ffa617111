-- `circle::circle_in`: the plan and the case that were read are the accepted ones, or nobody is in the circle.
use mathlib.Core.Path.{◌∙◌}
use native.Mathlib.Omega.{arith}
use Rattle.report.proofs.OperateLaws.{plan-sound, case-sound}
use Rattle.exports.proofs.CircleLaws.{no-person, plan_unread, case_unread, both_read_lem}
use Rattle.exports.proofs.circle.circle_in.Goals as goal

pub returns-then-person-gt63 : goal.returns-then-person-gt63
returns-then-person-gt63 c = let a = c.args in no-person a.plan.now a.case.now a.person (omega arith)

pub returns-then-read-ne0 : goal.returns-then-read-ne0
returns-then-read-ne0 c =
    let a = c.args in
    plan_unread a.plan.now a.case.now a.person (omega (arith, c.if-person-gt63.false)) c.decode_plan-read.result c.decode_plan-read.ensures c.if-read-ne0.true

pub returns-then-got-ne0 : goal.returns-then-got-ne0
returns-then-got-ne0 c =
    let a = c.args in
    case_unread a.plan.now a.case.now a.person (omega (arith, c.if-person-gt63.false)) c.decode_plan-read.result c.decode_plan-read.ensures c.if-read-ne0.false
    c.read_case-got.result c.read_case-got.ensures c.if-got-ne0.true

pub circle_over-requires : goal.circle_over-requires
circle_over-requires c =
    let a = c.args in (
      plan-sound a.plan.now c.decode_plan-read.result c.decode_plan-read.ensures c.if-read-ne0.false,
      case-sound a.plan.now c.decode_plan-read.result c.decode_plan-read.ensures a.case.now 0 c.if-read-ne0.false c.read_case-got.result c.read_case-got.ensures c.if-got-ne0.false,
      omega (arith, c.if-person-gt63.false),
    )

pub returns : goal.returns
returns c =
    let a = c.args in
    c.circle_over.ensures
    ∙ both_read_lem a.plan.now a.case.now a.person (omega (arith, c.if-person-gt63.false)) c.decode_plan-read.result c.decode_plan-read.ensures c.if-read-ne0.false
    c.read_case-got.result c.read_case-got.ensures c.if-got-ne0.false
