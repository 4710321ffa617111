use mathlib.Core.Path.{refl, ◌∙◌, ap}
use mathlib.Core.List.{[], ◌∷◌, ◌++◌}
use native.Mathlib.Omega.{arith}
use lib.ListN.{length, length-set}
use Rattle.records.specs.code.Decoded.{edge_of, edges_of}
use Rattle.records.specs.code.PlanPasses.{edge_read}
use Rattle.sets.proofs.LoopLaws.{length-made}
use Rattle.records.proofs.Reading.{seen}
use Rattle.records.proofs.Passing.{going, ends-short, ends_other, ends-refused, refused-bad, refused_judged, goes_on, goes_later, counted}
use Rattle.records.proofs.KindLaws.{edge_kind, needs_test, made_more, judge-same}
use Rattle.records.specs.paper.Fields as fields
use borrow.Author.Rules.{rules}
use Rattle.records.proofs.plan.reading.edges.read_edges.Goals as goal

pub loop-here-init : goal.loop-here-init
loop-here-init c =
    let a = c.args in
    let e = c.no_edges-edges.ensures in
    (c.requires, omega (arith, e.1), e.2, going edge_kind a.s.now a.from (edges_of c.no_edges-edges.result) e.0, refl)

pub edge_from-requires : goal.edge_from-requires
edge_from-requires c = let f = rw c.in-Got.is at c.edge_at.ensures.1 in (f.0, f.1)

pub bounds-edges-n : goal.bounds-edges-n
bounds-edges-n c = let h = c.judged.ensures.1 c.if-here-ne0.false in search (rules, h)

pub overflow_add-edges : goal.overflow_add-edges
overflow_add-edges c = let h = c.judged.ensures.1 c.if-here-ne0.false in search (rules, h)

pub overflow_add-at : goal.overflow_add-at
overflow_add-at c = search rules

pub overflow_add-here : goal.overflow_add-here
overflow_add-here c = counted c.loop-here.invariant.0 (search rules)

pub loop-here-smaller : goal.loop-here-smaller
loop-here-smaller c =
    let i = c.loop-here.invariant in
    let z = goes_later edge_kind _ _ i.3 c.if-here-eq0.true-raw i.0 c.loop-here-test.true c.if-s-at-ne4.false tt (seen (edge_read c.args.s.now) c.edge_at.ensures.0 c.in-Got.is) in
    omega (arith, z)

pub loop-here-preserved : goal.loop-here-preserved
loop-here-preserved c =
    let i = c.loop-here.invariant in
    let l = c.loop-here.edges in
    let b = c.in-Got.bits in
    let f = seen (edge_read c.args.s.now) c.edge_at.ensures.0 c.in-Got.is in
    let z = goes_later edge_kind _ _ i.3 c.if-here-eq0.true-raw i.0 c.loop-here-test.true c.if-s-at-ne4.false tt f in
    let h = c.judged.ensures.1 c.if-here-ne0.false in
    let j = judge-same 64 l.count (length (edges_of l)) _ (fields.needs 15 b) c.args.from.headed c.judged.ensures.0 (length-made edge_of l.items l.count (omega (arith, i.1, i.2))) (needs_test b 15) in (
      omega (arith, z),
      omega (arith, h),
      rw length-set i.2,
      goes_on edge_kind _ _ i.3 c.if-here-eq0.true-raw i.0 c.loop-here-test.true c.if-s-at-ne4.false tt f _ j c.if-here-ne0.false _
          (made_more edge_of l.items l.count _ (omega (arith, i.2, h)) ∙ ap (λ x. edges_of l ++ (x ∷ [])) c.edge_from.ensures),
      i.4,
    )

pub returns-in_default : goal.returns-in_default
returns-in_default c =
    let i = c.loop-here.invariant in
    rw c.refused.ensures (refused-bad edge_kind _ _ i.3 c.if-here-eq0.true-raw i.0 c.loop-here-test.true c.if-s-at-ne4.false (seen (edge_read c.args.s.now) c.edge_at.ensures.0 c.in_default.is), i.0, i.4)

pub returns-else-here-eq0 : goal.returns-else-here-eq0
returns-else-here-eq0 c =
    let i = c.loop-here.invariant in
    (ends-refused edge_kind _ _ i.3 c.if-here-eq0.false-raw, i.0, i.4)

pub returns-after-loop-here : goal.returns-after-loop-here
returns-after-loop-here c =
    let i = c.loop-here.invariant in
    (ends-short edge_kind _ _ i.3 c.loop-here-test.false, i.0, i.4)

pub returns-then-s-at-ne4 : goal.returns-then-s-at-ne4
returns-then-s-at-ne4 c =
    let i = c.loop-here.invariant in
    (ends_other edge_kind _ _ i.3 c.if-s-at-ne4.true, i.0, i.4)

pub returns-then-here-ne0 : goal.returns-then-here-ne0
returns-then-here-ne0 c =
    let i = c.loop-here.invariant in
    let l = c.loop-here.edges in
    let j = judge-same 64 l.count (length (edges_of l)) _ (fields.needs 15 c.in-Got.bits) c.args.from.headed c.judged.ensures.0 (length-made edge_of l.items l.count (omega (arith, i.1, i.2))) (needs_test c.in-Got.bits 15) in
    (refused_judged edge_kind _ _ i.3 c.if-here-eq0.true-raw i.0 c.loop-here-test.true c.if-s-at-ne4.false tt (seen (edge_read c.args.s.now) c.edge_at.ensures.0 c.in-Got.is) _ j c.if-here-ne0.true, i.0, i.4)

pub offset_bounds-edges-n : goal.offset_bounds-edges-n
offset_bounds-edges-n c = let h = c.judged.ensures.1 c.if-here-ne0.false in search (rules, h)
