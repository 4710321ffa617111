use mathlib.Core.Path.{refl}
use native.Mathlib.Omega.{arith}
use lib.ListN.{length-set}
use Rattle.records.specs.code.Decoded.{node_of}
use Rattle.expressions.specs.paper.Nodes.{uses_from}
use Rattle.expressions.specs.code.Coded.{FactFits}
use Rattle.expressions.proofs.ListLaws.{made_each, made-next, made-part, made_all, holds_none}
use Rattle.expressions.proofs.NodeLaws.{uses-next}
use Rattle.expressions.proofs.uses.node_uses.Goals as goal

pub loop-i-init : goal.loop-i-init
unfolding uses_from
loop-i-init c = (refl, holds_none 256 0)

pub node_use-requires : goal.node_use-requires
node_use-requires c =
    let ns = c.args.nodes in
    made_each node_of ns.items ns.count 256 _ (omega (arith, c.well_formed)) c.min-i-end.ensures FactFits c.loop-i.i _ c.loop-i-test.true c.requires

pub loop-i-preserved : goal.loop-i-preserved
loop-i-preserved c =
    let ns = c.args.nodes in
    let part = made-part node_of ns.items ns.count 256 _ (omega (arith, c.well_formed)) c.min-i-end.ensures c.loop-i.i c.loop-i.auto.i-end in
    let next = made-next node_of ns.items ns.count 256 _ (omega (arith, c.well_formed)) c.min-i-end.ensures c.loop-i.i _ c.loop-i-test.true in
    (simp length-set c.loop-i.invariant.0, rw next (uses-next _ _ c.loop-i.out c.loop-i.i c.node_use.result part (omega arith) c.loop-i.invariant.1 c.node_use.ensures))

pub returns : goal.returns
returns c =
    let ns = c.args.nodes in
    rw (← made_all node_of ns.items ns.count 256 _ (omega (arith, c.well_formed)) c.min-i-end.ensures c.loop-i.i c.loop-i-test.false) c.loop-i.invariant.1
