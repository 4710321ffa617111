use Prim.Native.Nat.{◌<◌, ◌^◌}
use native.Mathlib.Omega.{arith}
use lib.Bits.{bit_or, or_lt}
use Rattle.sets.specs.paper.Sets.{union}
use Rattle.worlds.proofs.ComponentLaws.{grown_one, grown_more, grown_all, or_grows}
use Rattle.worlds.proofs.discretion.component.Lts as lts
use Rattle.worlds.proofs.discretion.component.Reads as reads
use Rattle.worlds.proofs.discretion.component.Tie as tie
use Rattle.worlds.proofs.discretion.component.Goals as goal

-- what the next turn has fits a mask
fits : (c : lts.After-gather tie.the-claims reads.Pre reads.Post goal.the-invariant-loop-part goal.the-decreases-loop-part) → bit_or c.loop-part.part c.gather.result < 2 ^ 64
fits c = or_lt 64 _ _ c.loop-part.invariant.0 (omega (arith, c.gather.type_inv))

pub loop-part-init : goal.loop-part-init
loop-part-init c = (omega (arith, c.person_mask-part.type_inv), grown_one _ _ _ c.person_mask-part.ensures)

pub returns-then-next-part : goal.returns-then-next-part
unfolding union
returns-then-next-part c =
    grown_all _ _ c.loop-part.part _ c.loop-part.invariant.0 c.gather.ensures c.loop-part.invariant.1 c.if-next-part.true

pub loop-part-smaller : goal.loop-part-smaller
loop-part-smaller c =
    let x = or_grows c.loop-part.part c.gather.result in
    let y = fits c.before in
    omega (arith, c.if-next-part.false)

pub loop-part-preserved : goal.loop-part-preserved
unfolding union
loop-part-preserved c =
    (fits c.before, grown_more _ _ c.loop-part.part _ c.loop-part.invariant.0 c.gather.ensures c.loop-part.invariant.1)
