-- `refusal::refusal_of`: by the two cases of the answer.
use mathlib.Core.Path.{sym, ◌∙◌}
use mathlib.Core.Bool.{true, false}
use Rattle.records.specs.code.Decoded.{case_of}
use Rattle.probes.proofs.Entering.{passed_over, first-refused}
use Rattle.probes.proofs.refusal.refusal_of.Goals as goal

pub returns-then-over : goal.returns-then-over
returns-then-over c =
    let a = c.args in
    passed_over (case_of a.case) a.over true c.if-over.true (sym c.bindable.ensures ∙ c.in-Accepted.is)

pub returns-else-over : goal.returns-else-over
returns-else-over c =
    let a = c.args in
    passed_over (case_of a.case) a.over false c.if-over.false (sym c.bindable.ensures ∙ c.in-Accepted.is)

pub returns-in-Refused : goal.returns-in-Refused
returns-in-Refused c =
    let a = c.args in
    first-refused (case_of a.case) a.over _ _ (sym c.bindable.ensures ∙ c.in-Refused.is)
