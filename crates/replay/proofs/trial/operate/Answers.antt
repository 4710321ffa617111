-- `operate`: the list lent is as long as its bytes make it.
use mathlib.Core.Path.{sym}
use native.Mathlib.Omega.{arith}
use lib.Seq.{length-take-le}
use Rattle.replay.proofs.trial.operate.Goals as goal

pub slice_bounds-pool-end : goal.slice_bounds-pool-end
slice_bounds-pool-end c = sym (length-take-le _ _ (omega (arith, c.amounts_of-list.ensures, c.requires)))
