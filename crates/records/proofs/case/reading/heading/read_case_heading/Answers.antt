use mathlib.Core.Path.{refl}
use mathlib.Core.Bool.{true}
use mathlib.Core.List.{[]}
use native.Mathlib.Omega.{arith}
use lib.ListN.{length}
use borrow.Author.Tests.{eq-eqb}
use Rattle.records.specs.code.Decoded.{case_heading_of, case_headings_of}
use Rattle.records.specs.code.CasePasses.{case_heading_read}
use Rattle.records.specs.code.Passes.{at_start}
use Rattle.records.proofs.Reading.{seen}
use Rattle.records.proofs.Passing.{going, ends-short, ends_other, refused-bad, refused_judged, goes_on, goes_later}
use Rattle.records.proofs.KindLaws.{needs_test, judge-same, heading-count, heading-none}
use Rattle.records.proofs.CaseKinds.{heading_kind}
use Rattle.records.specs.paper.Fields as fields
use Rattle.records.proofs.case.reading.heading.read_case_heading.Goals as goal

pub loop-here-init : goal.loop-here-init
loop-here-init c = rw c.at_start-here.ensures (omega arith, omega arith, going heading_kind c.args.s.now at_start [] refl, refl, refl)

pub loop-here-smaller : goal.loop-here-smaller
loop-here-smaller c =
    let i = c.loop-here.invariant in
    let z = goes_later heading_kind _ _ i.2 (eq-eqb _ 0 i.3) i.0 c.loop-here-test.true c.if-s-at-ne1.false tt (seen case_heading_read c.heading_at.ensures c.in-Got.is) in
    omega (arith, z)

pub loop-here-preserved : goal.loop-here-preserved
loop-here-preserved c =
    let l = c.loop-here in
    let i = l.invariant in
    let b = c.in-Got.bits in
    let x = case_heading_of l.heading in
    let f = seen case_heading_read c.heading_at.ensures c.in-Got.is in
    let z = goes_later heading_kind _ _ i.2 (eq-eqb _ 0 i.3) i.0 c.loop-here-test.true c.if-s-at-ne1.false tt f in
    let h = c.judged.ensures.1 c.if-here-ne0.false in
    let j = judge-same 1 l.headings (length (case_headings_of l.headings l.heading)) _ (fields.needs 81 b) true c.judged.ensures.0 (heading-count l.headings x i.1) (needs_test b 81) in (
      omega (arith, z),
      omega arith,
      goes_on heading_kind _ _ i.2 (eq-eqb _ 0 i.3) i.0 c.loop-here-test.true c.if-s-at-ne1.false tt f _ j c.if-here-ne0.false _ (rw (heading-none l.headings x h)),
      c.if-here-ne0.false,
      refl,
    )

pub returns-in_default : goal.returns-in_default
returns-in_default c =
    let i = c.loop-here.invariant in
    rw c.refused.ensures (refused-bad heading_kind _ _ i.2 (eq-eqb _ 0 i.3) i.0 c.loop-here-test.true c.if-s-at-ne1.false (seen case_heading_read c.heading_at.ensures c.in_default.is), i.0, i.1, i.4)

pub returns-after-loop-here : goal.returns-after-loop-here
returns-after-loop-here c =
    let i = c.loop-here.invariant in
    (ends-short heading_kind _ _ i.2 c.loop-here-test.false, i.0, i.1, i.4)

pub returns-then-s-at-ne1 : goal.returns-then-s-at-ne1
returns-then-s-at-ne1 c =
    let i = c.loop-here.invariant in
    (ends_other heading_kind _ _ i.2 c.if-s-at-ne1.true, i.0, i.1, i.4)

pub returns-then-here-ne0 : goal.returns-then-here-ne0
returns-then-here-ne0 c =
    let l = c.loop-here in
    let i = l.invariant in
    let x = case_heading_of l.heading in
    let j = judge-same 1 l.headings (length (case_headings_of l.headings l.heading)) _ (fields.needs 81 c.in-Got.bits) true c.judged.ensures.0 (heading-count l.headings x i.1) (needs_test c.in-Got.bits 81) in
    (refused_judged heading_kind _ _ i.2 (eq-eqb _ 0 i.3) i.0 c.loop-here-test.true c.if-s-at-ne1.false tt (seen case_heading_read c.heading_at.ensures c.in-Got.is) _ j c.if-here-ne0.true, i.0, i.1, i.4)
