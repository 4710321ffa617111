-- Condition and election of an attachment.
use borrow.Author.Tests.{lt-ltb, le-ltb}
use Rattle.records.specs.code.Decoded.{attachment_of}
use Rattle.records.specs.paper.Plan.{attachment_sound}
use Rattle.records.proofs.plan.checks.naming.attachment_sound.Goals as goal

pub returns-then-from-nodes : goal.returns-then-from-nodes
unfolding attachment_of attachment_sound
returns-then-from-nodes c = λ P f n. rw (← n, ← c.from.ensures, le-ltb _ _ c.if-from-nodes.true)

pub returns : goal.returns
unfolding attachment_of attachment_sound
returns c = λ P f n.
    rw (← n, ← c.from.ensures, lt-ltb _ _ c.if-from-nodes.false) (c.election_sound.ensures P f)
