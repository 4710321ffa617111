use Rattle.records.specs.code.Decoded.{boolean_of}
use Rattle.expressions.specs.code.Evident.{EvidentBoolean}
use Rattle.expressions.proofs.EvidenceLaws.{noting_none, noting_each, noting_next, noting_end}
use native.Mathlib.Omega.{arith}
use Rattle.expressions.proofs.evidence.note_booleans.Goals as goal

pub loop-i-init : goal.loop-i-init
loop-i-init c = noting_none (omega (arith, c.well_formed)) c.min-n.ensures

pub evidence_in-more-requires : goal.evidence_in-more-requires
unfolding boolean_of
evidence_in-more-requires c = noting_each c.loop-i.invariant EvidentBoolean _ c.loop-i-test.true c.requires

pub loop-i-preserved : goal.loop-i-preserved
unfolding boolean_of
loop-i-preserved c = noting_next c.loop-i.invariant _ c.loop-i-test.true c.evidence_in-more.ensures c.note.ensures

pub returns : goal.returns
returns c = noting_end c.loop-i.invariant c.loop-i-test.false
