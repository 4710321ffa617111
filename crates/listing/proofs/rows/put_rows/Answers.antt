use mathlib.Core.Path.{◌≡◌, ◌∙◌}
use Prim.Native.Nat.{◌-◌}
use native.Mathlib.Omega.{arith}
use Rattle.listing.proofs.RowLaws.{rows_next, rows_end}
use Rattle.listing.proofs.rows.put_rows.Goals as goal

pub loop-k-init : goal.loop-k-init
loop-k-init c = let e : c.args.n - 0 ≡ c.args.n = omega arith in rw e

pub loop-k-preserved : goal.loop-k-preserved
loop-k-preserved c = rows_next _ c.loop-k.k _ _ _ _ c.loop-k-test.true c.fields_at-line.ensures c.put_row-next.ensures ∙ c.loop-k.invariant

pub returns : goal.returns
returns c = rows_end _ _ _ _ c.loop-k-test.false ∙ c.loop-k.invariant
