-- `tell`: the seven numbers, by the four kinds of answer.
use mathlib.Core.Path.{sym, ap}
use Rattle.report.specs.paper.Operations.{told}
use Rattle.report.specs.declared.Answer.{Answer}
use Rattle.exports.specs.Handed.{numbers}
use Rattle.exports.proofs.tell.tell.Goals as goal

pub returns-in-Accepted : goal.returns-in-Accepted
unfolding numbers
returns-in-Accepted c = let e = sym c.in-Accepted.is in (ap (λ (a : Answer). (told a).refusal) e, ap (λ (a : Answer). numbers (told a)) e)

pub returns-in-Answered : goal.returns-in-Answered
unfolding numbers
returns-in-Answered c = let e = sym c.in-Answered.is in (ap (λ (a : Answer). (told a).refusal) e, ap (λ (a : Answer). numbers (told a)) e)

pub returns-in-Refused : goal.returns-in-Refused
unfolding numbers
returns-in-Refused c = let e = sym c.in-Refused.is in (ap (λ (a : Answer). (told a).refusal) e, ap (λ (a : Answer). numbers (told a)) e)

pub returns-in-TooManyWorlds : goal.returns-in-TooManyWorlds
unfolding numbers
returns-in-TooManyWorlds c = let e = sym c.in-TooManyWorlds.is in (ap (λ (a : Answer). (told a).refusal) e, ap (λ (a : Answer). numbers (told a)) e)
