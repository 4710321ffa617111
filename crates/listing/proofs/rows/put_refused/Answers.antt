-- `rows::put_refused`: word, number, record; a byte and a place of 64 bits keep it short.
use native.Mathlib.Omega.{arith}
use Rattle.listing.proofs.RowLaws.{refused_put}
use Rattle.listing.proofs.Short.{refused-short}
use Rattle.listing.proofs.rows.put_refused.Goals as goal

pub returns : goal.returns
returns c =
    let f = c.ranges in record { out_after = refused_put _ _ _ _ _ _ _ c.put_all-next.ensures c.put_cell-next.ensures c.put_number-next.ensures c.put.ensures; k_len_bound = refused-short _ _ (omega (arith, f.number)) (omega (arith, f.k)) }
