-- `evidence::note_relations`: what is noted, with what the records from i on give, gives the whole, for each fact.
use Rattle.records.specs.code.Decoded.{relation_of}
use Rattle.expressions.specs.code.Evident.{evidence_mark}
use Rattle.expressions.proofs.EvidenceLaws.{Noting}
use Rattle.expressions.proofs.evidence.note_relations.Given as goal

abbrev pub invariant-loop-i : goal.invariant-loop-i
invariant-loop-i l = Noting relation_of (λ x. x.fact) (λ x. evidence_mark x.observation) l.relations.items l.relations.count 256 l.initial.table l.n l.table l.i
