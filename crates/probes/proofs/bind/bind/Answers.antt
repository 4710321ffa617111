-- `bind::bind`: the plan and the case that were read are the accepted ones, or their refusal stands.
use mathlib.Core.Path.{subst}
use Rattle.records.specs.paper.Fields.{Verdict}
use Rattle.probes.specs.Entries.{Given}
use Rattle.probes.specs.Binds.{Binds}
use Rattle.probes.proofs.Entering.{plan-sound, plan-refused, case-refused, case-sound, both_read_lem}
use Rattle.probes.proofs.bind.bind.Goals as goal

pub returns-then-read-ne0 : goal.returns-then-read-ne0
returns-then-read-ne0 c =
    subst (λ (v : Verdict Given). Binds v c.nothing.result)
    (plan-refused c.args.plan.now c.args.case.now c.decode_plan-read.result c.decode_plan-read.ensures c.if-read-ne0.true) c.nothing.ensures

pub returns-then-got-ne0 : goal.returns-then-got-ne0
returns-then-got-ne0 c =
    subst (λ (v : Verdict Given). Binds v c.nothing-then-got-ne0.result)
    (case-refused c.args.plan.now c.args.case.now c.decode_plan-read.result c.decode_plan-read.ensures c.if-read-ne0.false c.read_case-got.result c.read_case-got.ensures
    c.if-got-ne0.true)
    c.nothing-then-got-ne0.ensures

pub bound_over-requires : goal.bound_over-requires
bound_over-requires c = (
  plan-sound c.args.plan.now c.decode_plan-read.result c.decode_plan-read.ensures c.if-read-ne0.false,
  case-sound c.args.plan.now c.args.case.now c.decode_plan-read.result c.decode_plan-read.ensures c.if-read-ne0.false c.read_case-got.result c.read_case-got.ensures c.if-got-ne0.false,
)

pub returns : goal.returns
returns c =
    subst (λ (v : Verdict Given). Binds v c.bound_over.result)
    (both_read_lem c.args.plan.now c.args.case.now c.decode_plan-read.result c.decode_plan-read.ensures c.if-read-ne0.false c.read_case-got.result c.read_case-got.ensures c.if-got-ne0.false)
    c.bound_over.ensures
