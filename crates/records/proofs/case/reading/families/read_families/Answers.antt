use mathlib.Core.Path.{refl}
use native.Mathlib.Omega.{arith}
use lib.ListN.{length, length-set}
use Rattle.records.specs.paper.Fields as fields
use Rattle.records.specs.code.Decoded.{family_of, families_of}
use Rattle.records.specs.code.CasePasses.{family_read}
use Rattle.sets.proofs.LoopLaws.{length-made}
use Rattle.records.proofs.Reading.{seen}
use Rattle.records.proofs.Passing.{going, ends-short, ends_other, ends-refused, refused-bad, refused_judged, goes_on, goes_later, counted}
use Rattle.records.proofs.KindLaws.{needs_test, made_more, judge-same}
use Rattle.records.proofs.CaseKinds.{family_kind}
use borrow.Author.Rules.{rules}
use Rattle.records.proofs.case.reading.families.read_families.Goals as goal

pub loop-here-init : goal.loop-here-init
loop-here-init c =
    let a = c.args in
    let e = c.no_families-families.ensures in
    (c.requires, omega (arith, e.1), e.2, going family_kind a.s.now a.from (families_of c.no_families-families.result) e.0, refl)

pub bounds-families-n : goal.bounds-families-n
bounds-families-n c = let h = c.judged.ensures.1 c.if-here-ne0.false in search (rules, h)

pub overflow_add-families : goal.overflow_add-families
overflow_add-families c = let h = c.judged.ensures.1 c.if-here-ne0.false in search (rules, h)

pub overflow_add-at : goal.overflow_add-at
overflow_add-at c = search rules

pub overflow_add-here : goal.overflow_add-here
overflow_add-here c = counted c.loop-here.invariant.0 (search rules)

pub loop-here-smaller : goal.loop-here-smaller
loop-here-smaller c =
    let i = c.loop-here.invariant in
    let z = goes_later family_kind _ _ i.3 c.if-here-eq0.true-raw i.0 c.loop-here-test.true c.if-s-at-ne2.false tt (seen family_read c.family_at.ensures c.in-Got.is) in
    omega (arith, z)

pub loop-here-preserved : goal.loop-here-preserved
loop-here-preserved c =
    let i = c.loop-here.invariant in
    let l = c.loop-here.families in
    let b = c.in-Got.bits in
    let f = seen family_read c.family_at.ensures c.in-Got.is in
    let z = goes_later family_kind _ _ i.3 c.if-here-eq0.true-raw i.0 c.loop-here-test.true c.if-s-at-ne2.false tt f in
    let h = c.judged.ensures.1 c.if-here-ne0.false in
    let j = judge-same 16 l.count (length (families_of l)) _ (fields.needs 1 b) c.args.from.headed c.judged.ensures.0 (length-made family_of l.items l.count (omega (arith, i.1, i.2))) (needs_test b 1) in (
      omega (arith, z),
      omega (arith, h),
      rw length-set i.2,
      goes_on family_kind _ _ i.3 c.if-here-eq0.true-raw i.0 c.loop-here-test.true c.if-s-at-ne2.false tt f _ j c.if-here-ne0.false _ (made_more family_of l.items l.count _ (omega (arith, i.2, h))),
      i.4,
    )

pub returns-in_default : goal.returns-in_default
returns-in_default c =
    let i = c.loop-here.invariant in
    rw c.refused.ensures (refused-bad family_kind _ _ i.3 c.if-here-eq0.true-raw i.0 c.loop-here-test.true c.if-s-at-ne2.false (seen family_read c.family_at.ensures c.in_default.is), i.0, i.4)

pub returns-else-here-eq0 : goal.returns-else-here-eq0
returns-else-here-eq0 c =
    let i = c.loop-here.invariant in
    (ends-refused family_kind _ _ i.3 c.if-here-eq0.false-raw, i.0, i.4)

pub returns-after-loop-here : goal.returns-after-loop-here
returns-after-loop-here c =
    let i = c.loop-here.invariant in
    (ends-short family_kind _ _ i.3 c.loop-here-test.false, i.0, i.4)

pub returns-then-s-at-ne2 : goal.returns-then-s-at-ne2
returns-then-s-at-ne2 c =
    let i = c.loop-here.invariant in
    (ends_other family_kind _ _ i.3 c.if-s-at-ne2.true, i.0, i.4)

pub returns-then-here-ne0 : goal.returns-then-here-ne0
returns-then-here-ne0 c =
    let i = c.loop-here.invariant in
    let l = c.loop-here.families in
    let j = judge-same 16 l.count (length (families_of l)) _ (fields.needs 1 c.in-Got.bits) c.args.from.headed c.judged.ensures.0 (length-made family_of l.items l.count (omega (arith, i.1, i.2))) (needs_test c.in-Got.bits 1) in
    (refused_judged family_kind _ _ i.3 c.if-here-eq0.true-raw i.0 c.loop-here-test.true c.if-s-at-ne2.false tt (seen family_read c.family_at.ensures c.in-Got.is) _ j c.if-here-ne0.true, i.0, i.4)
