-- A plan out of its bytes, then refusals 4, 6 and 7.
use mathlib.Core.Path.{◌≡◌, sym, ap, ◌∙◌}
use borrow.Author.Tests.{eq-eqb, ne_eqb}
use Rattle.records.specs.paper.Fields.{on_fine}
use Rattle.records.specs.paper.Plan.{plan_faults, checked_plan}
use Rattle.records.specs.code.Decoded.{plan_of}
use Rattle.records.specs.code.PlanRead.{plan_read_of}
use Rattle.records.proofs.CheckLaws.{refused_is, faults_accepted, faults-number}
use Rattle.records.proofs.plan.checks.decode_plan.Goals as goal

pub returns-then-read-ne0 : goal.returns-then-read-ne0
unfolding checked_plan plan_read_of
returns-then-read-ne0 c =
    let r = c.read_plan-read in
    let e : plan_read_of r.result ≡ on_fine (plan_read_of r.result) plan_faults = rw (ne_eqb r.result.number 0 c.if-read-ne0.true) in
    e ∙ ap (λ v. on_fine v plan_faults) r.ensures

pub returns-in_default : goal.returns-in_default
unfolding checked_plan plan_read_of
returns-in_default c =
    let r = c.read_plan-read in let P = plan_of r.result.plan in
    let e : plan_read_of r.result ≡ on_fine (plan_read_of r.result) plan_faults =
    rw (eq-eqb r.result.number 0 c.if-read-ne0.false) (sym (faults_accepted P (sym c.in_default.is ∙ c.plan_faults-found.ensures))) in
    e ∙ ap (λ v. on_fine v plan_faults) r.ensures

pub returns : goal.returns
unfolding checked_plan plan_read_of
returns c =
    let r = c.read_plan-read in let P = plan_of r.result.plan in
    let f = sym c.in-Refused.is ∙ c.plan_faults-found.ensures in
    rw (ne_eqb _ 0 (faults-number P f)) (sym (ap (λ v. on_fine v plan_faults) (sym r.ensures) ∙ rw (eq-eqb r.result.number 0 c.if-read-ne0.false) (refused_is (plan_faults P) f)))
