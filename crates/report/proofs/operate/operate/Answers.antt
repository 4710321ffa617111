-- `operate::operate`: both buffers are cleared, and then the refusals of plan and case, or what stands before the worlds are looked at.
use mathlib.Core.Path.{sym, ap, ◌∙◌}
use lib.ListN.{length}
use Rattle.page.proofs.ZeroLaws.{zeros_all}
use Rattle.records.specs.code.Decoded.{plan_of}
use Rattle.expressions.proofs.FitLaws.{nodes-fit}
use Rattle.report.specs.paper.Operations.{stopped, opened}
use Rattle.report.proofs.OpenLaws.{bare_fits, is_ready}
use Rattle.report.proofs.OperateLaws.{plan-sound, plan_stops, case-sound, case_stops, case-opened, stops, cleared, bare, ready-outcome}
use Rattle.report.proofs.operate.operate.Goals as goal

-- ---- what is known once the plan is read

pub returns-then-read-ne0 : goal.returns-then-read-ne0
returns-then-read-ne0 c =
    stops c.args.wanted _ _ _ _ _
    (plan_stops c.args.plan.now c.decode_plan-read.result c.decode_plan-read.ensures c.args.case.now (length c.args.lines.now) c.if-read-ne0.true
    ∙ ap stopped (sym c.refused.ensures))
    c.clear.ensures c.clear-2.ensures

-- ---- and the case

pub returns-then-got-ne0 : goal.returns-then-got-ne0
returns-then-got-ne0 c =
    stops c.args.wanted _ _ _ _ _
    (case_stops c.args.plan.now c.decode_plan-read.result c.decode_plan-read.ensures c.args.case.now (length c.args.lines.now) c.if-read-ne0.false
    c.read_case-got.result c.read_case-got.ensures c.if-got-ne0.true
    ∙ ap stopped (sym c.refused-then-got-ne0.ensures))
    c.clear.ensures c.clear-2.ensures

pub node_uses-uses-requires : goal.node_uses-uses-requires
unfolding plan_of
node_uses-uses-requires c = nodes-fit (plan_of c.decode_plan-read.result.plan) (plan-sound c.args.plan.now c.decode_plan-read.result c.decode_plan-read.ensures c.if-read-ne0.false)

pub open_case-opened-requires : goal.open_case-opened-requires
open_case-opened-requires c = (
  plan-sound c.args.plan.now c.decode_plan-read.result c.decode_plan-read.ensures c.if-read-ne0.false,
  case-sound c.args.plan.now c.decode_plan-read.result c.decode_plan-read.ensures c.args.case.now 0 c.if-read-ne0.false c.read_case-got.result c.read_case-got.ensures c.if-got-ne0.false,
  c.node_uses-uses.ensures,
)

-- ---- and what stands before the worlds are looked at

pub without_worlds-requires : goal.without_worlds-requires
without_worlds-requires c =
    bare_fits c.decode_plan-read.result.plan c.read_case-got.result.case
    (plan-sound c.args.plan.now c.decode_plan-read.result c.decode_plan-read.ensures c.if-read-ne0.false)
    (case-sound c.args.plan.now c.decode_plan-read.result c.decode_plan-read.ensures c.args.case.now 0 c.if-read-ne0.false c.read_case-got.result c.read_case-got.ensures c.if-got-ne0.false)
    c.clear.new.out c.open_case-opened.result c.open_case-opened.ensures c.in-Incomplete.is

pub answer_ready-requires : goal.answer_ready-requires
answer_ready-requires c =
    is_ready c.decode_plan-read.result.plan c.read_case-got.result.case
    (plan-sound c.args.plan.now c.decode_plan-read.result c.decode_plan-read.ensures c.if-read-ne0.false)
    (case-sound c.args.plan.now c.decode_plan-read.result c.decode_plan-read.ensures c.args.case.now 0 c.if-read-ne0.false c.read_case-got.result c.read_case-got.ensures c.if-got-ne0.false)
    c.clear.new.out c.open_case-opened.result c.open_case-opened.ensures c.in-Nothing.is
    _ _ c.node_uses-uses.ensures (zeros_all _ (length c.args.lines.now) c.clear.ensures) (zeros_all _ (length c.args.events.now) c.clear-2.ensures)

-- by the room for lines
pub returns-in-Stopped : goal.returns-in-Stopped
returns-in-Stopped c =
    cleared c.args.wanted _ _ _ _ _ _ _ (opened c.args.plan.now c.args.case.now) c.clear.ensures c.clear-2.ensures
    (stops c.args.wanted _ _ _ _ _
    (case-opened c.args.plan.now c.decode_plan-read.result c.decode_plan-read.ensures c.args.case.now (length c.clear.new.out) c.if-read-ne0.false c.read_case-got.result c.read_case-got.ensures c.if-got-ne0.false c.open_case-opened.result c.open_case-opened.ensures c.in-Stopped.is)
    (zeros_all _ (length c.args.lines.now) c.clear.ensures) (zeros_all _ (length c.args.events.now) c.clear-2.ensures))

pub returns-in-Incomplete : goal.returns-in-Incomplete
returns-in-Incomplete c =
    cleared c.args.wanted _ _ _ _ _ _ _ (opened c.args.plan.now c.args.case.now) c.clear.ensures c.clear-2.ensures
    (bare c.args.wanted c.read_case-got.result.case.heading.roster _ _ (zeros_all _ (length c.args.lines.now) c.clear.ensures) (zeros_all _ (length c.args.events.now) c.clear-2.ensures)
    (case-opened c.args.plan.now c.decode_plan-read.result c.decode_plan-read.ensures c.args.case.now (length c.clear.new.out) c.if-read-ne0.false c.read_case-got.result c.read_case-got.ensures c.if-got-ne0.false c.open_case-opened.result c.open_case-opened.ensures c.in-Incomplete.is)
    _ c.without_worlds.result c.without_worlds.ensures)

pub returns-in-Nothing : goal.returns-in-Nothing
returns-in-Nothing c =
    cleared c.args.wanted _ _ _ _ _ _ _ (opened c.args.plan.now c.args.case.now) c.clear.ensures c.clear-2.ensures
    (ready-outcome c.args.wanted c.decode_plan-read.result.plan c.read_case-got.result.case _ _ _ _ _
    (case-opened c.args.plan.now c.decode_plan-read.result c.decode_plan-read.ensures c.args.case.now (length c.clear.new.out) c.if-read-ne0.false c.read_case-got.result c.read_case-got.ensures c.if-got-ne0.false c.open_case-opened.result c.open_case-opened.ensures c.in-Nothing.is)
    c.answer_ready.ensures)
