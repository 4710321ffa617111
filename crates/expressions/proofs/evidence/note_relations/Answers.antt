use mathlib.Core.Path.{◌∙◌}
use Rattle.records.specs.code.Decoded.{relation_of}
use Rattle.expressions.specs.code.Evident.{EvidentRelation}
use Rattle.sets.proofs.UnionLaws.{none-union}
use Rattle.expressions.proofs.EvidenceLaws.{noting_none, noting_each, noting_next, noting_end}
use native.Mathlib.Omega.{arith}
use Rattle.expressions.proofs.evidence.note_relations.Goals as goal

pub loop-i-init : goal.loop-i-init
loop-i-init c = noting_none (omega (arith, c.well_formed)) c.min-n.ensures

pub mark-more-requires : goal.mark-more-requires
unfolding relation_of
mark-more-requires c = noting_each c.loop-i.invariant EvidentRelation _ c.loop-i-test.true c.requires

pub loop-i-preserved : goal.loop-i-preserved
unfolding relation_of
loop-i-preserved c = noting_next c.loop-i.invariant _ c.loop-i-test.true (c.mark-more.ensures ∙ none-union _) c.note.ensures

pub returns : goal.returns
returns c = noting_end c.loop-i.invariant c.loop-i-test.false
