-- `evidence::note_booleans`: what is noted, with what the records from i on give, gives the whole, for each fact.
use Rattle.records.specs.code.Decoded.{boolean_of}
use Rattle.expressions.specs.code.Evident.{boolean_evidence}
use Rattle.expressions.proofs.EvidenceLaws.{Noting}
use Rattle.expressions.proofs.evidence.note_booleans.Given as goal

abbrev pub invariant-loop-i : goal.invariant-loop-i
invariant-loop-i l = Noting boolean_of (λ x. x.fact) (λ x. boolean_evidence x) l.booleans.items l.booleans.count 64 l.initial.table l.n l.table l.i
