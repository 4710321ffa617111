use mathlib.Core.Path.{refl, sym, ◌∙◌}
use native.Mathlib.Nat.{lt_trans}
use native.Mathlib.Omega.{arith}
use lib.ListN.{length-set}
use Rattle.sets.specs.paper.Sets.{union, meet}
use Rattle.worlds.specs.code.Tables.{row}
use Rattle.sets.proofs.TurnLaws.{turn_has}
use Rattle.worlds.proofs.NoteLaws.{note_store, note_end}
use Rattle.worlds.proofs.cuts.note_clashes.Goals as goal

pub loop-c-init : goal.loop-c-init
loop-c-init c = rw c.into_iter-c-iterator.ensures.into_iter_gives (c.ranges.cuts.fits, c.told-noted, λ i. refl)

pub loop-c-preserved : goal.loop-c-preserved
unfolding union meet
loop-c-preserved c =
    let a = c.args in
    let lies = c.in-Some.ensures.steps.first in (
      lt_trans c.in-Some.ensures.steps.rest.1 c.loop-c.invariant.0,
      simp length-set c.loop-c.invariant.1,
      λ i. note_store (λ d. meet (row a.t.now 6 d) a.cuts) c.loop-c.c-iterator.0 c.next.new.self.0 c.in-Some.c _ c.loop-c.noted
          (turn_has _ _ _ c.loop-c.invariant.0 lies c.in-Some.ensures.steps.rest)
          (omega (arith, lies.1, c.loop-c.invariant.1)) refl i
          ∙ c.loop-c.invariant.2 i,
    )

pub returns : goal.returns
returns c =
    let a = c.args in
    record { at = λ i. sym (note_end (λ d. meet (row a.t.now 6 d) a.cuts) c.loop-c.c-iterator.0 c.loop-c.noted c.in-None.ensures.steps.0 i) ∙ c.loop-c.invariant.2 i }
