-- `evidence::evidence_in`: its observations, then explicit unknown.
use mathlib.Core.Path.{◌∙◌}
use Rattle.sets.proofs.UnionLaws.{none-union}
use Rattle.expressions.proofs.EvidenceLaws.{observations_evident, unknown_evident, given-unknown, given-seen}
use Rattle.expressions.proofs.evidence.evidence_in.Goals as goal

pub mark_all-seen-requires : goal.mark_all-seen-requires
mark_all-seen-requires c = observations_evident c.args.b c.requires

pub mark-requires : goal.mark-requires
mark-requires c = unknown_evident c.args.b c.requires c.if-b.true

pub returns-then-b : goal.returns-then-b
returns-then-b c = given-unknown c.args.b c.mark_all-seen.result c.mark.result c.if-b.true (c.mark_all-seen.ensures ∙ none-union _) c.mark.ensures

pub returns-else-b : goal.returns-else-b
returns-else-b c = given-seen c.args.b c.mark_all-seen.result c.if-b.false (c.mark_all-seen.ensures ∙ none-union _)
