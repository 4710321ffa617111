use mathlib.Core.Path.{refl, ◌∙◌, ap}
use mathlib.Core.List.{[], ◌∷◌, ◌++◌}
use native.Mathlib.Omega.{arith}
use lib.ListN.{length, length-set}
use Rattle.records.specs.code.Decoded.{node_of, nodes_of}
use Rattle.records.specs.code.PlanPasses.{node_read}
use Rattle.sets.proofs.LoopLaws.{length-made}
use Rattle.records.proofs.Reading.{seen}
use Rattle.records.proofs.Passing.{going, ends-short, ends_other, ends-refused, refused-bad, refused_judged, goes_on, goes_later, counted}
use Rattle.records.proofs.KindLaws.{node_kind, made_more, judge-same}
use Rattle.records.specs.paper.Fields as fields
use borrow.Author.Rules.{rules}
use Rattle.records.proofs.plan.reading.nodes.read_nodes.Goals as goal

pub loop-here-init : goal.loop-here-init
loop-here-init c =
    let a = c.args in
    let e = c.no_nodes-nodes.ensures in
    (c.requires, omega (arith, e.1), e.2, going node_kind a.s.now a.from (nodes_of c.no_nodes-nodes.result) e.0, refl)

pub overflow_add-at : goal.overflow_add-at
overflow_add-at c = search rules

pub node_from-requires : goal.node_from-requires
node_from-requires c = let f = rw c.in-Got.is at c.node_at.ensures.1 in (f.0, f.1, f.2, f.3)

pub bounds-nodes-n : goal.bounds-nodes-n
bounds-nodes-n c = let h = c.judged.ensures.1 c.if-here-ne0.false in search (rules, h)

pub overflow_add-nodes : goal.overflow_add-nodes
overflow_add-nodes c = let h = c.judged.ensures.1 c.if-here-ne0.false in search (rules, h)

pub overflow_add-here : goal.overflow_add-here
overflow_add-here c = counted c.loop-here.invariant.0 (search rules)

pub loop-here-smaller : goal.loop-here-smaller
loop-here-smaller c =
    let i = c.loop-here.invariant in
    let z = goes_later node_kind _ _ i.3 c.if-here-eq0.true-raw i.0 c.loop-here-test.true c.if-s-at-ne3.false tt (seen (node_read c.args.s.now) c.node_at.ensures.0 c.in-Got.is) in
    omega (arith, z)

pub loop-here-preserved : goal.loop-here-preserved
loop-here-preserved c =
    let i = c.loop-here.invariant in
    let l = c.loop-here.nodes in
    let b = c.in-Got.bits in
    let f = seen (node_read c.args.s.now) c.node_at.ensures.0 c.in-Got.is in
    let z = goes_later node_kind _ _ i.3 c.if-here-eq0.true-raw i.0 c.loop-here-test.true c.if-s-at-ne3.false tt f in
    let h = c.judged.ensures.1 c.if-here-ne0.false in
    let j = judge-same 256 l.count (length (nodes_of l)) _ (fields.single b) c.args.from.headed c.judged.ensures.0 (length-made node_of l.items l.count (omega (arith, i.1, i.2))) c.one_bit.ensures in (
      omega (arith, z),
      omega (arith, h),
      rw length-set i.2,
      goes_on node_kind _ _ i.3 c.if-here-eq0.true-raw i.0 c.loop-here-test.true c.if-s-at-ne3.false tt f _ j c.if-here-ne0.false _ (made_more node_of l.items l.count _ (omega (arith, i.2, h)) ∙ ap (λ x. nodes_of l ++ (x ∷ [])) c.node_from.ensures),
      i.4,
    )

pub returns-in_default : goal.returns-in_default
returns-in_default c =
    let i = c.loop-here.invariant in
    rw c.refused.ensures (refused-bad node_kind _ _ i.3 c.if-here-eq0.true-raw i.0 c.loop-here-test.true c.if-s-at-ne3.false (seen (node_read c.args.s.now) c.node_at.ensures.0 c.in_default.is), i.0, i.4)

pub returns-else-here-eq0 : goal.returns-else-here-eq0
returns-else-here-eq0 c =
    let i = c.loop-here.invariant in
    (ends-refused node_kind _ _ i.3 c.if-here-eq0.false-raw, i.0, i.4)

pub returns-after-loop-here : goal.returns-after-loop-here
returns-after-loop-here c =
    let i = c.loop-here.invariant in
    (ends-short node_kind _ _ i.3 c.loop-here-test.false, i.0, i.4)

pub returns-then-s-at-ne3 : goal.returns-then-s-at-ne3
returns-then-s-at-ne3 c =
    let i = c.loop-here.invariant in
    (ends_other node_kind _ _ i.3 c.if-s-at-ne3.true, i.0, i.4)

pub returns-then-here-ne0 : goal.returns-then-here-ne0
returns-then-here-ne0 c =
    let i = c.loop-here.invariant in
    let l = c.loop-here.nodes in
    let j = judge-same 256 l.count (length (nodes_of l)) _ (fields.single c.in-Got.bits) c.args.from.headed c.judged.ensures.0 (length-made node_of l.items l.count (omega (arith, i.1, i.2))) c.one_bit.ensures in
    (refused_judged node_kind _ _ i.3 c.if-here-eq0.true-raw i.0 c.loop-here-test.true c.if-s-at-ne3.false tt (seen (node_read c.args.s.now) c.node_at.ensures.0 c.in-Got.is) _ j c.if-here-ne0.true, i.0, i.4)

pub offset_bounds-nodes-n : goal.offset_bounds-nodes-n
offset_bounds-nodes-n c = let h = c.judged.ensures.1 c.if-here-ne0.false in search (rules, h)
