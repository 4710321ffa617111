-- `draft::drafted`: the empty lists, and node 0.
use Rattle.records.specs.code.Decoded.{plan_of}
use Rattle.spreadsheet.proofs.draft.drafted.Goals as goal

pub returns : goal.returns
unfolding plan_of
returns c = rw (c.no_bars.ensures.0, c.no_attachments.ensures.0, c.no_cuts.ensures.0, c.one_node.ensures, c.no_facts.ensures.0)
