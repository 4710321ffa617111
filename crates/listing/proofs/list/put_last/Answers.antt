-- `list::put_last`: the word and the number of households.
use Rattle.listing.proofs.RowLaws.{last_put}
use Rattle.listing.proofs.list.put_last.Goals as goal

pub returns : goal.returns
returns c = last_put _ _ _ _ _ _ c.household_count.ensures c.put_all-next.ensures c.put_number-next.ensures c.put.ensures
