-- `bindable::boolean_faults`: the records passed have no fault, and their facts are kept.
use Rattle.records.specs.code.Decoded.{boolean_of}
use Rattle.expressions.proofs.FaultLaws.{boolean_judge, Judging}
use Rattle.expressions.proofs.bindable.boolean_faults.Given as goal

abbrev pub invariant-loop-i : goal.invariant-loop-i
invariant-loop-i l = Judging boolean_of (λ b. b.fact) boolean_judge l.booleans.items l.booleans.count l.first 64 l.n l.earlier l.i
