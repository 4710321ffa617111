-- `draft::edge_from`: no defeaters.
use Rattle.records.specs.code.Decoded.{edge_of}
use Rattle.spreadsheet.proofs.draft.edge_from.Goals as goal

pub returns : goal.returns
unfolding edge_of
returns c = rw c.no_numbers.ensures
