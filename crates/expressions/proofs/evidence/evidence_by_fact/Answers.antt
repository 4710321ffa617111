-- `evidence::evidence_by_fact`: booleans, then relations, from nothing.
use Prim.Native.Nat.{ℕ}
use mathlib.Core.Path.{ap, ◌∙◌}
use lib.Dec.{eqb}
use Rattle.sets.specs.paper.Sets.{union, only, union_of}
use Rattle.records.specs.code.Decoded.{case_of}
use Rattle.expressions.specs.code.Evident.{evidence_mark, boolean_evidence}
use Rattle.expressions.proofs.ListLaws.{filled_at}
use Rattle.sets.proofs.UnionLaws.{none-union}
use Rattle.expressions.proofs.EvidenceLaws.{evident_booleans, evident_relations, evidence-given}
use Rattle.expressions.proofs.evidence.evidence_by_fact.Goals as goal

pub note_booleans-requires : goal.note_booleans-requires
unfolding case_of
note_booleans-requires c = evident_booleans (case_of c.args.case) c.requires

pub note_relations-requires : goal.note_relations-requires
unfolding case_of
note_relations-requires c = evident_relations (case_of c.args.case) c.requires

pub returns : goal.returns
unfolding case_of
returns c = record {
  at = λ f.
      let C = case_of c.args.case in
      let seen = union_of (λ b. only (eqb b.fact f) (boolean_evidence b)) C.booleans in
      let told = union_of (λ r. only (eqb r.fact f) (evidence_mark r.observation)) C.relations in
      c.note_relations.ensures f ∙ ap (λ (x : ℕ). union x told) (c.note_booleans.ensures f ∙ ap (λ (x : ℕ). union x seen) (filled_at 256 f 0) ∙ none-union seen) ∙ evidence-given C f;
}
