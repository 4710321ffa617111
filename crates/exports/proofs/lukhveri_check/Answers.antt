-- `lukhveri_check`: the seven numbers of the check.
use mathlib.Core.Path.{ap, ◌∙◌}
use Rattle.report.specs.paper.Operations.{told}
use Rattle.report.specs.declared.Answer.{Answer}
use Rattle.exports.specs.Handed.{numbers}
use Rattle.exports.proofs.lukhveri_check.Goals as goal

pub returns : goal.returns
returns c =
    let e = c.check-answer.ensures in
    let t = c.tell.ensures in
    (t.0 ∙ ap (λ (a : Answer). (told a).refusal) e, t.1 ∙ ap (λ (a : Answer). numbers (told a)) e)
