-- `bindable::family_faults`: the records passed have no fault, and their numbers are kept.
use Rattle.records.specs.code.Decoded.{family_of}
use Rattle.expressions.proofs.FaultLaws.{family_judge, Judging}
use Rattle.expressions.proofs.bindable.family_faults.Given as goal

abbrev pub invariant-loop-i : goal.invariant-loop-i
invariant-loop-i l = Judging family_of (λ m. m.number) family_judge l.families.items l.families.count l.first 16 l.n l.earlier l.i
