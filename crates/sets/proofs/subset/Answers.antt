-- `sets::subset`: `a & !b == 0`.
use mathlib.Core.Path.{ap}
use Prim.Native.Nat.{ℕ}
use lib.Dec.{eqb}
use Rattle.sets.specs.paper.Sets.{subset}
use Rattle.sets.proofs.SetLaws.{and-not}
use Rattle.sets.proofs.subset.Goals as goal

pub returns : goal.returns
unfolding subset
returns c = ap (λ (x : ℕ). eqb x 0) (and-not 64 c.args.a c.args.b c.ranges.a.fits c.ranges.b.fits)
