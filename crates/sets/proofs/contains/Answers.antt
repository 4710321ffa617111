-- `sets::contains`: the mask of p tells its digit, and a u64 has no digit from 64 on.
use mathlib.Core.Path.{ap, sym, ◌∙◌}
use mathlib.Core.Bool.{not}
use Prim.Native.Nat.{ℕ}
use native.Mathlib.Omega.{arith}
use lib.Bits.{bit_and}
use lib.Dec.{eqb}
use Rattle.sets.specs.paper.Sets.{one}
use Rattle.sets.proofs.SetLaws.{has_test, has_high}
use Rattle.sets.proofs.contains.Goals as goal

pub returns-then-p-lt64 : goal.returns-then-p-lt64
unfolding one
returns-then-p-lt64 c =
    let s = c in
    ap (λ (x : ℕ). not (eqb (bit_and s.args.m x) 0)) c.bit.ensures ∙ has_test s.args.m s.args.p

pub returns-else-p-lt64 : goal.returns-else-p-lt64
returns-else-p-lt64 c = sym (has_high 64 c.args.m c.args.p c.ranges.m.fits (omega arith))
