use mathlib.Core.Path.{◌≡◌, refl}
use native.Mathlib.Omega.{arith}
use lib.ListN.{length, length-set}
use Rattle.sets.specs.paper.Sets.{union}
use Rattle.worlds.specs.code.Tables.{row}
use Rattle.worlds.specs.code.Citing.{CitesIn}
use Rattle.sets.proofs.TurnLaws.{and-meets, and_apart}
use Rattle.worlds.proofs.CiteLaws.{left_all, left-turn, left-none}
use Rattle.worlds.proofs.CiteTurns.{anchor-cites, anchor-filled, anchor_added, anchor_apart, anchor-none}
use Rattle.worlds.proofs.cite.cite_attachments.Goals as goal

pub loop-i-init : goal.loop-i-init
loop-i-init c = rw c.into_iter-i-iterator.ensures.into_iter_gives (c.told-cited, left_all _ _ _ _)

pub loop-i-preserved-then-b-t-ne0 : goal.loop-i-preserved-then-b-t-ne0
unfolding union
loop-i-preserved-then-b-t-ne0 c =
    let t = c.args.t.now in
    let i = c.in-Some.i in
    let added = anchor_added c.args.blocks.now c.loop-i.cited (row t 12 i) (row t 11 i) c.low.result (row t 18 i) c.low-then-b-t-ne0.result _ c.loop-i.invariant.0 c.low.ensures
    (and-meets _ _ c.if-b-t-ne0.true) c.low-then-b-t-ne0.ensures refl in
    (simp length-set c.loop-i.invariant.0, left-turn c.loop-i.invariant.1 c.in-Some.ensures.steps added)

pub loop-i-preserved-else-b-t-ne0 : goal.loop-i-preserved-else-b-t-ne0
loop-i-preserved-else-b-t-ne0 c =
    let t = c.args.t.now in
    let i = c.in-Some.i in
    let added = anchor_apart c.args.blocks.now c.loop-i.cited (row t 12 i) (row t 11 i) c.low.result (row t 18 i) c.low.ensures (and_apart _ _ c.if-b-t-ne0.false) in
    (c.loop-i.invariant.0, left-turn c.loop-i.invariant.1 c.in-Some.ensures.steps added)

pub loop-i-preserved : goal.loop-i-preserved
loop-i-preserved c =
    let t = c.args.t.now in
    let i = c.in-Some.i in
    let added = anchor-none c.args.blocks.now c.loop-i.cited (row t 12 i) (row t 11 i) 0 (row t 18 i) c.if-anchor-ne0.false in
    (c.loop-i.invariant.0, left-turn c.loop-i.invariant.1 c.in-Some.ensures.steps added)

pub returns : goal.returns
returns c = left-none c.in-None.ensures.steps.0 c.loop-i.invariant.1
