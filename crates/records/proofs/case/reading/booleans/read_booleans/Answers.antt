use mathlib.Core.Path.{refl, ◌∙◌}
use native.Mathlib.Omega.{arith}
use lib.ListN.{length, length-set}
use Rattle.records.specs.code.Decoded.{boolean_of, booleans_of}
use Rattle.records.specs.code.CasePasses.{boolean_read}
use Rattle.sets.proofs.LoopLaws.{length-made}
use Rattle.records.proofs.Reading.{seen}
use Rattle.records.proofs.Passing.{going, ends-short, ends_other, ends-refused, refused-bad, refused_judged, goes_on, goes_later, counted}
use Rattle.records.proofs.KindLaws.{needs_test, made_more, judge-same}
use Rattle.records.proofs.CaseKinds.{boolean_kind}
use Rattle.records.specs.paper.Fields as fields
use borrow.Author.Rules.{rules}
use Rattle.records.proofs.case.reading.booleans.read_booleans.Goals as goal

pub loop-here-init : goal.loop-here-init
loop-here-init c =
    let a = c.args in
    let e = c.no_booleans-booleans.ensures in
    (c.requires, omega (arith, e.1), e.2, going boolean_kind a.s.now a.from (booleans_of c.no_booleans-booleans.result) e.0, refl)

pub boolean_from-requires : goal.boolean_from-requires
boolean_from-requires c = let f = rw c.in-Got.is at c.boolean_at.ensures.1 in (f.0, f.1)

pub bounds-booleans-n : goal.bounds-booleans-n
bounds-booleans-n c = let h = c.judged.ensures.1 c.if-here-ne0.false in search (rules, h)

pub overflow_add-booleans : goal.overflow_add-booleans
overflow_add-booleans c = let h = c.judged.ensures.1 c.if-here-ne0.false in search (rules, h)

pub overflow_add-at : goal.overflow_add-at
overflow_add-at c = search rules

pub overflow_add-here : goal.overflow_add-here
overflow_add-here c = counted c.loop-here.invariant.0 (search rules)

pub loop-here-smaller : goal.loop-here-smaller
loop-here-smaller c =
    let i = c.loop-here.invariant in
    let z = goes_later boolean_kind _ _ i.3 c.if-here-eq0.true-raw i.0 c.loop-here-test.true c.if-s-at-ne3.false tt (seen (boolean_read c.args.s.now) c.boolean_at.ensures.0 c.in-Got.is) in
    omega (arith, z)

pub loop-here-preserved : goal.loop-here-preserved
loop-here-preserved c =
    let i = c.loop-here.invariant in
    let l = c.loop-here.booleans in
    let b = c.in-Got.bits in
    let f = seen (boolean_read c.args.s.now) c.boolean_at.ensures.0 c.in-Got.is in
    let z = goes_later boolean_kind _ _ i.3 c.if-here-eq0.true-raw i.0 c.loop-here-test.true c.if-s-at-ne3.false tt f in
    let h = c.judged.ensures.1 c.if-here-ne0.false in
    let j = judge-same 64 l.count (length (booleans_of l)) _ (fields.needs 1 b) c.args.from.headed c.judged.ensures.0 (length-made boolean_of l.items l.count (omega (arith, i.1, i.2))) (needs_test b 1) in (
      omega (arith, z),
      omega (arith, h),
      rw length-set i.2,
      goes_on boolean_kind _ _ i.3 c.if-here-eq0.true-raw i.0 c.loop-here-test.true c.if-s-at-ne3.false tt f _ j c.if-here-ne0.false _
          (made_more boolean_of l.items l.count _ (omega (arith, i.2, h)) ∙ rw c.boolean_from.ensures),
      i.4,
    )

pub returns-in_default : goal.returns-in_default
returns-in_default c =
    let i = c.loop-here.invariant in
    rw c.refused.ensures (refused-bad boolean_kind _ _ i.3 c.if-here-eq0.true-raw i.0 c.loop-here-test.true c.if-s-at-ne3.false (seen (boolean_read c.args.s.now) c.boolean_at.ensures.0 c.in_default.is), i.0, i.4)

pub returns-else-here-eq0 : goal.returns-else-here-eq0
returns-else-here-eq0 c =
    let i = c.loop-here.invariant in
    (ends-refused boolean_kind _ _ i.3 c.if-here-eq0.false-raw, i.0, i.4)

pub returns-after-loop-here : goal.returns-after-loop-here
returns-after-loop-here c =
    let i = c.loop-here.invariant in
    (ends-short boolean_kind _ _ i.3 c.loop-here-test.false, i.0, i.4)

pub returns-then-s-at-ne3 : goal.returns-then-s-at-ne3
returns-then-s-at-ne3 c =
    let i = c.loop-here.invariant in
    (ends_other boolean_kind _ _ i.3 c.if-s-at-ne3.true, i.0, i.4)

pub returns-then-here-ne0 : goal.returns-then-here-ne0
returns-then-here-ne0 c =
    let i = c.loop-here.invariant in
    let l = c.loop-here.booleans in
    let j = judge-same 64 l.count (length (booleans_of l)) _ (fields.needs 1 c.in-Got.bits) c.args.from.headed c.judged.ensures.0 (length-made boolean_of l.items l.count (omega (arith, i.1, i.2))) (needs_test c.in-Got.bits 1) in
    (refused_judged boolean_kind _ _ i.3 c.if-here-eq0.true-raw i.0 c.loop-here-test.true c.if-s-at-ne3.false tt (seen (boolean_read c.args.s.now) c.boolean_at.ensures.0 c.in-Got.is) _ j c.if-here-ne0.true, i.0, i.4)
