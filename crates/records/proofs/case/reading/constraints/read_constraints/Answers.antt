use mathlib.Core.Path.{refl}
use native.Mathlib.Omega.{arith}
use lib.ListN.{length, length-set}
use lib.Seq.{length-take-le}
use Rattle.records.specs.paper.Fields as fields
use Rattle.records.specs.code.CasePasses.{constraint_read}
use Rattle.records.specs.code.Decoded.{constraints_of}
use Rattle.records.proofs.Reading.{seen}
use Rattle.records.proofs.Passing.{going, ends-short, ends_other, ends-refused, refused-bad, refused_judged, goes_on, goes_later, counted}
use Rattle.records.proofs.KindLaws.{needs_test, take_more, judge-same}
use Rattle.records.proofs.CaseKinds.{constraint_kind}
use borrow.Author.Rules.{rules}
use Rattle.records.proofs.case.reading.constraints.read_constraints.Goals as goal

pub loop-here-init : goal.loop-here-init
loop-here-init c =
    let a = c.args in
    let e = c.no_constraints-constraints.ensures in
    (c.requires, omega (arith, e.1), e.2, going constraint_kind a.s.now a.from (constraints_of c.no_constraints-constraints.result) e.0, refl)

pub bounds-constraints-n : goal.bounds-constraints-n
bounds-constraints-n c = let h = c.judged.ensures.1 c.if-here-ne0.false in search (rules, h)

pub overflow_add-constraints : goal.overflow_add-constraints
overflow_add-constraints c = let h = c.judged.ensures.1 c.if-here-ne0.false in search (rules, h)

pub overflow_add-at : goal.overflow_add-at
overflow_add-at c = search rules

pub overflow_add-here : goal.overflow_add-here
overflow_add-here c = counted c.loop-here.invariant.0 (search rules)

pub loop-here-smaller : goal.loop-here-smaller
loop-here-smaller c =
    let i = c.loop-here.invariant in
    let z = goes_later constraint_kind _ _ i.3 c.if-here-eq0.true-raw i.0 c.loop-here-test.true c.if-s-at-ne5.false tt (seen constraint_read c.constraint_at.ensures c.in-Got.is) in
    omega (arith, z)

pub loop-here-preserved : goal.loop-here-preserved
loop-here-preserved c =
    let i = c.loop-here.invariant in
    let l = c.loop-here.constraints in
    let b = c.in-Got.bits in
    let f = seen constraint_read c.constraint_at.ensures c.in-Got.is in
    let z = goes_later constraint_kind _ _ i.3 c.if-here-eq0.true-raw i.0 c.loop-here-test.true c.if-s-at-ne5.false tt f in
    let h = c.judged.ensures.1 c.if-here-ne0.false in
    let j = judge-same 16 l.count (length (constraints_of l)) _ (fields.needs 1 b) c.args.from.headed c.judged.ensures.0 (length-take-le l.count l.items (omega (arith, i.1, i.2))) (needs_test b 1) in (
      omega (arith, z),
      omega (arith, h),
      rw length-set i.2,
      goes_on constraint_kind _ _ i.3 c.if-here-eq0.true-raw i.0 c.loop-here-test.true c.if-s-at-ne5.false tt f _ j c.if-here-ne0.false _ (take_more l.items l.count _ (omega (arith, i.2, h))),
      i.4,
    )

pub returns-in_default : goal.returns-in_default
returns-in_default c =
    let i = c.loop-here.invariant in
    rw c.refused.ensures (refused-bad constraint_kind _ _ i.3 c.if-here-eq0.true-raw i.0 c.loop-here-test.true c.if-s-at-ne5.false (seen constraint_read c.constraint_at.ensures c.in_default.is), i.0, i.4)

pub returns-else-here-eq0 : goal.returns-else-here-eq0
returns-else-here-eq0 c =
    let i = c.loop-here.invariant in
    (ends-refused constraint_kind _ _ i.3 c.if-here-eq0.false-raw, i.0, i.4)

pub returns-after-loop-here : goal.returns-after-loop-here
returns-after-loop-here c =
    let i = c.loop-here.invariant in
    (ends-short constraint_kind _ _ i.3 c.loop-here-test.false, i.0, i.4)

pub returns-then-s-at-ne5 : goal.returns-then-s-at-ne5
returns-then-s-at-ne5 c =
    let i = c.loop-here.invariant in
    (ends_other constraint_kind _ _ i.3 c.if-s-at-ne5.true, i.0, i.4)

pub returns-then-here-ne0 : goal.returns-then-here-ne0
returns-then-here-ne0 c =
    let i = c.loop-here.invariant in
    let l = c.loop-here.constraints in
    let j = judge-same 16 l.count (length (constraints_of l)) _ (fields.needs 1 c.in-Got.bits) c.args.from.headed c.judged.ensures.0 (length-take-le l.count l.items (omega (arith, i.1, i.2))) (needs_test c.in-Got.bits 1) in
    (refused_judged constraint_kind _ _ i.3 c.if-here-eq0.true-raw i.0 c.loop-here-test.true c.if-s-at-ne5.false tt (seen constraint_read c.constraint_at.ensures c.in-Got.is) _ j c.if-here-ne0.true, i.0, i.4)
