use mathlib.Core.Path.{◌≡◌, refl}
use native.Mathlib.Omega.{arith}
use Rattle.sets.proofs.SetLaws.{size_le}
use Rattle.report.specs.code.EventBytes.{sizes}
use Rattle.report.proofs.EventLaws.{sizes-more}
use Rattle.report.proofs.pairs.count_pairs.Goals as goal

pub loop-i-init : goal.loop-i-init
unfolding sizes
loop-i-init c = (refl, omega arith)

pub overflow_cast-count : goal.overflow_cast-count
overflow_cast-count c = omega (arith, c.size.ensures, size_le)

pub overflow_add-count : goal.overflow_add-count
overflow_add-count c = omega (arith, c.size.ensures, size_le)

pub loop-i-preserved : goal.loop-i-preserved
loop-i-preserved c = (omega (arith, c.size.ensures, sizes-more), omega (arith, c.size.ensures, size_le))

pub returns : goal.returns
returns c =
    let e : c.loop-i.i ≡ c.args.n = omega arith in
    rw (← e) (c.loop-i.invariant.0, omega arith)
