use mathlib.Core.Bool.{false}
use mathlib.Core.Path.{refl}
use native.Mathlib.Omega.{arith}
use lib.ListN.{length-set}
use Rattle.records.specs.code.Decoded.{node_of}
use Rattle.expressions.specs.paper.Nodes.{values_from}
use Rattle.expressions.proofs.ListLaws.{made-next, made-part, made_all, holds_none}
use Rattle.expressions.proofs.NodeLaws.{values-next}
use Rattle.expressions.proofs.nodes.values.Goals as goal

pub loop-i-init : goal.loop-i-init
unfolding values_from
loop-i-init c = (refl, holds_none 256 false)

pub loop-i-preserved : goal.loop-i-preserved
loop-i-preserved c =
    let ns = c.args.nodes in
    let part = made-part node_of ns.items ns.count 256 _ (omega (arith, c.well_formed)) c.min-i-end.ensures c.loop-i.i c.loop-i.auto.i-end in
    let next = made-next node_of ns.items ns.count 256 _ (omega (arith, c.well_formed)) c.min-i-end.ensures c.loop-i.i _ c.loop-i-test.true in
    (simp length-set c.loop-i.invariant.0, rw next (values-next c.args.facts _ _ c.loop-i.out c.loop-i.i c.value.result part (omega arith) c.loop-i.invariant.1 c.value.ensures))

pub returns : goal.returns
returns c =
    let ns = c.args.nodes in
    rw (← made_all node_of ns.items ns.count 256 _ (omega (arith, c.well_formed)) c.min-i-end.ensures c.loop-i.i c.loop-i-test.false) c.loop-i.invariant.1
