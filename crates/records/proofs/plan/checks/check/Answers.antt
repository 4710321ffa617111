-- The answer of the whole check.
use mathlib.Core.Path.{◌≡◌, ap, ◌∙◌}
use borrow.Author.Tests.{eq-eqb, ne_eqb}
use Rattle.records.specs.code.Check.{checked_of}
use Rattle.records.specs.code.PlanRead.{plan_read_of}
use Rattle.records.specs.declared.checked.Checked.TheVariants.{Accepted, Refused}
use Rattle.records.proofs.plan.checks.check.Goals as goal

pub returns-then-read-eq0 : goal.returns-then-read-eq0
unfolding plan_read_of checked_of
returns-then-read-eq0 c =
    let r = c.decode_plan-read in
    let e : Accepted ≡ checked_of (plan_read_of r.result) = rw (eq-eqb r.result.number 0 c.if-read-eq0.true) in e ∙ ap checked_of r.ensures

pub returns : goal.returns
unfolding plan_read_of checked_of
returns c =
    let r = c.decode_plan-read in
    let e : Refused r.result.number r.result.«record» ≡ checked_of (plan_read_of r.result) = rw (ne_eqb r.result.number 0 c.if-read-eq0.false) in
    e ∙ ap checked_of r.ensures
