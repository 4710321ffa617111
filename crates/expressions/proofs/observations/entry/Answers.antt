-- `expressions::observations::entry` meets its contract: past sixteen there is no entry.
use mathlib.Core.Path.{sym}
use native.Mathlib.Omega.{arith}
use lib.ListN.{get_or-eq_default}
use mir.Syntax.{w8}
use borrow.Kind.Array.{e_int, good_length}
use Rattle.expressions.proofs.observations.entry.Goals as goal

pub returns-else-at-lt16 : goal.returns-else-at-lt16
returns-else-at-lt16 c =
    let l = good_length (e_int w8) 16 c.args.items _ c.well_formed.0 in
    sym (get_or-eq_default c.args.items 0 {n = c.args.i} (omega arith))
