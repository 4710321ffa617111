-- `rows::put_row`: four fields and the line feed.
use Rattle.listing.proofs.RowLaws.{row_put}
use Rattle.listing.proofs.rows.put_row.Goals as goal

pub returns : goal.returns
returns c = row_put _ _ _ _ _ _ _ _ _ _ c.put_cell-next.ensures c.put_cell-next-2.ensures c.put_cell-next-3.ensures c.put_persons-next.ensures c.put.ensures
