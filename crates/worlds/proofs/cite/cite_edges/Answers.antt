use mathlib.Core.Path.{◌≡◌, refl, sym, ◌∙◌}
use native.Mathlib.Omega.{arith}
use lib.ListN.{length, length-set}
use Rattle.sets.specs.paper.Sets.{union}
use Rattle.worlds.specs.code.Tables.{row}
use Rattle.worlds.specs.code.Citing.{CitesIn}
use Rattle.worlds.proofs.CiteLaws.{left_all, left-turn, left-none}
use Rattle.worlds.proofs.CiteTurns.{edge-cites, edge-filled, edge_added, edge_apart, edge_none}
use Rattle.worlds.proofs.cite.cite_edges.Goals as goal

pub loop-e-init : goal.loop-e-init
loop-e-init c = rw c.into_iter-e-iterator.ensures.into_iter_gives (c.told-cited, left_all _ _ _ _)

pub low-requires-then-subset : goal.low-requires-then-subset
low-requires-then-subset c = edge-filled c.args.blocks.now c.loop-e.cited _ c.low.result 0 c.low.ensures (sym c.subset.ensures ∙ c.if-subset.true)

pub loop-e-preserved-then-subset : goal.loop-e-preserved-then-subset
unfolding union
loop-e-preserved-then-subset c =
    let t = c.args.t.now in
    let e = c.in-Some.e in
    let added = edge_added c.args.blocks.now c.loop-e.cited (row t 0 e) c.low.result (row t 16 e) c.low-then-subset.result _ c.loop-e.invariant.0 c.low.ensures
    (sym c.subset.ensures ∙ c.if-subset.true) c.low-then-subset.ensures refl in
    (simp length-set c.loop-e.invariant.0, left-turn c.loop-e.invariant.1 c.in-Some.ensures.steps added)

pub loop-e-preserved-else-subset : goal.loop-e-preserved-else-subset
loop-e-preserved-else-subset c =
    let t = c.args.t.now in
    let e = c.in-Some.e in
    let added = edge_apart c.args.blocks.now c.loop-e.cited (row t 0 e) c.low.result (row t 16 e) c.low.ensures (sym c.subset.ensures ∙ c.if-subset.false) in
    (c.loop-e.invariant.0, left-turn c.loop-e.invariant.1 c.in-Some.ensures.steps added)

pub loop-e-preserved : goal.loop-e-preserved
loop-e-preserved c =
    let t = c.args.t.now in
    let e = c.in-Some.e in
    let added = edge_none c.args.blocks.now c.loop-e.cited (row t 0 e) 0 (row t 16 e) c.if-pair-ne0.false in
    (c.loop-e.invariant.0, left-turn c.loop-e.invariant.1 c.in-Some.ensures.steps added)

pub returns : goal.returns
returns c = left-none c.in-None.ensures.steps.0 c.loop-e.invariant.1
