-- `observations::look_in_booleans`: what is left of the records from record i on, seen after what was seen, gives the whole, for each fact.
use Rattle.records.specs.code.Decoded.{boolean_of}
use Rattle.expressions.proofs.SeenLaws.{Looking}
use Rattle.expressions.proofs.observations.look_in_booleans.Given as goal

abbrev pub invariant-loop-i : goal.invariant-loop-i
invariant-loop-i l = Looking boolean_of (λ x. x.fact) (λ x. x.observations) l.booleans.items l.booleans.count 64 l.initial.s.items l.n l.s.items l.i
