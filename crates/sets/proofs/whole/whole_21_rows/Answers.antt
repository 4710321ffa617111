-- `whole::whole_21_rows`: what an array by value tells on entry, of itself and of its rows.
use native.Mathlib.Omega.{arith}
use Rattle.sets.proofs.WholeLaws.{rows_long}
use Rattle.sets.proofs.whole.whole_21_rows.Goals as goal

pub returns : goal.returns
returns c =
    let g = c.well_formed.0.1 in
    (g.0.1, λ k h. rows_long ((borrow.Kind.Array.e_int mir.Syntax.w64).ty.own_val) 64 c.args.rows c.well_formed.0.0 g.1 k (omega (arith, g.0.1)))
