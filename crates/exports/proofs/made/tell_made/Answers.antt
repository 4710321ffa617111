-- `made::tell_made`: the three numbers, of bytes that were written and of a refusal.
use mathlib.Core.Path.{sym, ap}
use Rattle.encoding.specs.code.Made.{made_of}
use Rattle.encoding.specs.declared.made.Made.{Made}
use Rattle.exports.specs.Handed.{made_numbers, made_refusal}
use Rattle.exports.proofs.made.tell_made.Goals as goal

pub returns-in-Written : goal.returns-in-Written
returns-in-Written c = let e = sym c.in-Written.is in (ap (λ (a : Made). made_refusal (made_of a)) e, ap (λ (a : Made). made_numbers (made_of a)) e)

pub returns-in-Refused : goal.returns-in-Refused
returns-in-Refused c = let e = sym c.in-Refused.is in (ap (λ (a : Made). made_refusal (made_of a)) e, ap (λ (a : Made). made_numbers (made_of a)) e)
