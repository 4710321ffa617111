use mathlib.Core.Path.{◌≡◌, refl, sym, ap, ◌∙◌}
use mathlib.Core.List.{List}
use Prim.Native.Nat.{ℕ}
use native.Mathlib.Nat.{lt_trans}
use native.Mathlib.Omega.{arith}
use lib.ListN.{length, length-set}
use Rattle.sets.specs.paper.Sets.{union, lowest}
use Rattle.sets.proofs.UnionLaws.{union_assoc}
use Rattle.worlds.specs.code.Over.{entry}
use Rattle.sets.proofs.TurnLaws.{turn_has}
use Rattle.worlds.proofs.CiteTurns.{handed, hand_next, hand_skip, hand_end}
use Rattle.worlds.proofs.cite.hand_out.Goals as goal

pub loop-p-init : goal.loop-p-init
loop-p-init c = rw c.into_iter-p-iterator.ensures.into_iter_gives (c.ranges.persons.fits, c.told-citations, λ p. refl)

pub loop-p-preserved-then-b-ne0 : goal.loop-p-preserved-then-b-ne0
unfolding union
loop-p-preserved-then-b-ne0 c =
    let now = c.loop-p.citations in
    let i = c.loop-p.invariant in
    let t = c.in-Some.p in
    let turn = c.in-Some.ensures.steps in (
      omega (arith, turn.rest.1),
      simp length-set i.1,
      λ p. hand_next c.args.blocks.now c.args.cited.now c.args.own.now c.loop-p.p-iterator.0 c.next.new.self.0 t now (turn_has _ _ _ i.0 turn.first turn.rest) _
          (omega (arith, turn.first.1)) c.if-b-ne0.true
          (ap (λ (k : ℕ). union (entry now t) (union (entry c.args.cited.now k) (entry c.args.own.now t))) c.low.ensures.0
          ∙ sym (union_assoc (entry now t) (entry c.args.cited.now (lowest (entry c.args.blocks.now t))) (entry c.args.own.now t))) p ∙ i.2 p,
    )

pub loop-p-preserved : goal.loop-p-preserved
loop-p-preserved c =
    let i = c.loop-p.invariant in
    let turn = c.in-Some.ensures.steps in (
      omega (arith, turn.rest.1),
      i.1,
      λ p. hand_skip c.args.blocks.now c.args.cited.now c.args.own.now c.loop-p.p-iterator.0 c.next.new.self.0 c.in-Some.p c.loop-p.citations (turn_has _ _ _ i.0 turn.first turn.rest)
          c.if-b-ne0.false p ∙ i.2 p,
    )

pub returns : goal.returns
returns c = let args = c.args in
    record { at = λ p. sym (hand_end args.blocks.now args.cited.now args.own.now c.loop-p.p-iterator.0 c.loop-p.citations c.in-None.ensures.steps.0 p) ∙ c.loop-p.invariant.2 p }
