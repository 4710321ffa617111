-- `rows::put_cell`: the digits and the space.
use Rattle.listing.proofs.RowLaws.{cell_put}
use Rattle.listing.proofs.rows.put_cell.Goals as goal

pub returns : goal.returns
returns c = cell_put _ _ _ _ _ c.from.ensures c.put_number-next.ensures c.put.ensures
