-- `list::put_table`: header, rows and last row; bytes keep it short.
use native.Mathlib.Omega.{arith}
use Rattle.listing.proofs.RowLaws.{table_put}
use Rattle.listing.proofs.Short.{table-short}
use Rattle.listing.proofs.list.put_table.Goals as goal

pub returns : goal.returns
returns c = record { out_after = table_put _ _ _ _ _ c.put_all-next.ensures c.put_rows-next.ensures c.put_last.ensures; n_len_bound = table-short _ (λ i. let g = c.type_inv.lines i in omega (arith, g)) _ c.requires.0 }
