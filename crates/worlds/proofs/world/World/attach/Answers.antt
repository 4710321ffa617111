use mathlib.Core.Path.{refl}
use native.Mathlib.Omega.{arith}
use Rattle.sets.specs.paper.Sets.{meet}
use Rattle.worlds.proofs.OverLaws.{turn-in, turn-rest, turn-listed}
use Rattle.worlds.proofs.AttachLaws.{attaching, reached_start, reached-next, reached_end, anchor-some}
use Rattle.worlds.proofs.world.World.attach.Goals as goal

pub loop-i-init : goal.loop-i-init
loop-i-init c =
    rw c.into_iter-i-iterator.ensures.into_iter_gives (c.ranges.moved.fits, refl, refl, λ P I k a T. reached_start P I k a _ _ _ _ c.ranges.moved.fits T)

pub loop-i-preserved-then-anchor-ne0 : goal.loop-i-preserved-then-anchor-ne0
unfolding meet
loop-i-preserved-then-anchor-ne0 c =
    let v = c.loop-i.invariant in
    let s = c.in-Some.ensures.steps in (
      omega (arith, s.rest.1),
      v.1,
      v.2,
      λ P I k a T. reached-next P I k a _ _ _ _ c.ranges.moved.fits T _ _ _ (v.3 P I k a T) (turn-in v.0 s) _ _ _ (turn-rest v.0 s) (turn-listed v.0 s) c.low.ensures.0 c.move_to.ensures,
    )

pub loop-i-preserved : goal.loop-i-preserved
unfolding meet
loop-i-preserved c =
    let v = c.loop-i.invariant in
    let s = c.in-Some.ensures.steps in (
      omega (arith, s.rest.1),
      v.1,
      v.2,
      λ P I k a T. absurd (anchor-some P I k a _ _ _ _ c.ranges.moved.fits T _ _ _ (v.3 P I k a T) (turn-in v.0 s) c.if-anchor-ne0.false),
    )

pub returns : goal.returns
returns c =
    record {
      roles = c.loop-i.invariant.1;
      kinds = c.loop-i.invariant.2;
      blocks = λ P I k a S is below unmarked begun.
          reached_end P I k a _ _ _ _ c.ranges.moved.fits (attaching P I k a S is below unmarked begun) _ _ c.in-None.ensures.steps.0 (c.loop-i.invariant.3 P I k a (attaching P I k a S is below unmarked begun));
    }
