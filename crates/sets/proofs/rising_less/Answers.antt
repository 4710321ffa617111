-- `sets::rising_less`: the lowest digit in which the two differ decides.
use mathlib.Core.Path.{sym}
use Prim.Native.Nat.{◌<◌}
use native.Mathlib.Omega.{arith}
use lib.Bits.{bit_xor, xor_lt}
use lib.Count.{count_trailing_zeros}
use Rattle.sets.proofs.SetLaws.{shift_set, shift_clear, trailing_lt}
use Rattle.sets.proofs.Rising.{rising-same, rising_in, rising-out}
use Rattle.sets.proofs.rising_less.Goals as goal

-- the place is below 64
place : (c : goal.Else-d-eq0) → count_trailing_zeros 64 (bit_xor c.args.a c.args.b) < 64
place c = trailing_lt 64 _ (xor_lt 64 _ _ c.ranges.a.fits c.ranges.b.fits) c.if-d-eq0.false

pub returns-then-d-eq0 : goal.returns-then-d-eq0
returns-then-d-eq0 c = sym (rising-same _ _ c.ranges.a.fits c.ranges.b.fits c.if-d-eq0.true)

pub overflow_cast-t : goal.overflow_cast-t
overflow_cast-t c = omega (arith, place c)

pub overflow_shr-a : goal.overflow_shr-a
overflow_shr-a c = omega (arith, place c)

pub overflow_cast-result : goal.overflow_cast-result
overflow_cast-result c = omega (arith, place c.before)

pub overflow_shr-result : goal.overflow_shr-result
overflow_shr-result c = omega (arith, place c.before)

pub returns-then-a-t-eq1 : goal.returns-then-a-t-eq1
returns-then-a-t-eq1 c =
    let s = c in
    sym (rising_in s.args.a s.args.b s.ranges.a.fits s.ranges.b.fits c.if-d-eq0.false (shift_set s.args.a (count_trailing_zeros 64 (bit_xor s.args.a s.args.b)) c.if-a-t-eq1.true))

pub overflow_cast-result-2 : goal.overflow_cast-result-2
overflow_cast-result-2 c = omega (arith, place c.before)

pub overflow_shr-result-2 : goal.overflow_shr-result-2
overflow_shr-result-2 c = omega (arith, place c.before)

pub returns : goal.returns
returns c =
    let s = c in
    sym (rising-out s.args.a s.args.b s.ranges.a.fits s.ranges.b.fits c.if-d-eq0.false (shift_clear s.args.a (count_trailing_zeros 64 (bit_xor s.args.a s.args.b)) c.if-a-t-eq1.false))
