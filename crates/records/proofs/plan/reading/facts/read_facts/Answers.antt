use mathlib.Core.Path.{refl, sym, ◌∙◌, ap, ap₂}
use mathlib.Core.Bool.{false, ◌&&◌}
use mathlib.Core.List.{[], ◌∷◌, ◌++◌}
use native.Mathlib.Omega.{arith}
use lib.ListN.{length, length-set}
use Rattle.records.specs.paper.Plan.{rises, facts_rise, Fact, fact_bits}
use Rattle.records.specs.code.Decoded.{fact_of, facts_of}
use Rattle.records.specs.code.PlanPasses.{fact_read}
use Rattle.sets.proofs.LoopLaws.{length-made}
use Rattle.records.proofs.Reading.{seen}
use Rattle.records.proofs.Passing.{going, ends-short, ends_other, ends-refused, refused-bad, refused_judged, goes_on, goes_later, counted}
use Rattle.records.proofs.FactLaws.{last_fact, last_none, last_more, rise-more}
use Rattle.sets.proofs.SetLaws.{and_parts}
use Rattle.records.proofs.KindLaws.{fact_kind, made_more, judge-same_fully, is_sound, it_fits, no-tuple}
use borrow.Author.Rules.{rules}
use Rattle.records.proofs.plan.reading.facts.read_facts.Goals as goal

pub loop-here-init : goal.loop-here-init
unfolding fact_of facts_rise
loop-here-init c =
    let a = c.args in
    let e = c.no_facts-facts.ensures in
    let n = c.no_fact-last.ensures in (
      c.requires,
      omega (arith, e.1),
      e.2,
      going fact_kind a.s.now a.from (facts_of c.no_facts-facts.result) e.0,
      ap facts_rise e.0,
      ap last_fact e.0 ∙ last_none ∙ rw (n.0, n.1),
      omega (arith, n.1),
      λ z. n.1,
      refl,
    )

pub fact_from-fact-requires : goal.fact_from-fact-requires
fact_from-fact-requires c = let f = rw c.in-Got.is at c.fact_at.ensures.1 in (f.0, f.1)

pub fact_rises-rises-requires : goal.fact_rises-rises-requires
fact_rises-rises-requires c = let f = rw c.in-Got.is at c.fact_at.ensures.1 in let n = c.fact_from-fact.ensures.1 in (c.loop-here.invariant.6, omega (arith, f.0, n), c.loop-here.invariant.7)

pub bounds-facts-n : goal.bounds-facts-n
bounds-facts-n c = let h = c.judged_fully.ensures.1 c.if-here-ne0.false in search (rules, h)

pub overflow_add-facts : goal.overflow_add-facts
overflow_add-facts c = let h = c.judged_fully.ensures.1 c.if-here-ne0.false in search (rules, h)

pub overflow_add-at : goal.overflow_add-at
overflow_add-at c = search rules

pub overflow_add-here : goal.overflow_add-here
overflow_add-here c = counted c.loop-here.invariant.0 (search rules)

pub loop-here-smaller : goal.loop-here-smaller
loop-here-smaller c =
    let i = c.loop-here.invariant in
    let z = goes_later fact_kind _ _ i.3 c.if-here-eq0.true-raw i.0 c.loop-here-test.true c.if-s-at-ne2.false i.4 (seen (fact_read c.args.s.now) c.fact_at.ensures.0 c.in-Got.is) in
    omega (arith, z)

pub loop-here-preserved : goal.loop-here-preserved
loop-here-preserved c =
    let l = c.loop-here.facts in
    let i = c.loop-here.invariant in
    let b = c.in-Got.bits in
    let g = rw c.in-Got.is at c.fact_at.ensures.1 in
    let f = seen (fact_read c.args.s.now) c.fact_at.ensures.0 c.in-Got.is in
    let z = goes_later fact_kind _ _ i.3 c.if-here-eq0.true-raw i.0 c.loop-here-test.true c.if-s-at-ne2.false i.4 f in
    let h = c.judged_fully.ensures.1 c.if-here-ne0.false in
    let n = c.fact_from-fact.ensures in
    let x = n.0 in
    let d = c.fact_rises-rises.ensures ∙ ap₂ rises (sym i.5) x in
    let j = judge-same_fully 64 l.count (length (facts_of l)) false false _ (fact_bits b) c.args.from.headed _ _ c.judged_fully.ensures.0 (length-made fact_of l.items l.count (omega (arith, i.1, i.2))) refl c.both_or_none.ensures d in
    let more = made_more fact_of l.items l.count _ (omega (arith, i.2, h)) ∙ ap (λ (y : Fact). facts_of l ++ (y ∷ [])) x in
    let r = is_sound 64 l.count false (c.both_or_none.result && c.args.from.headed) c.fact_rises-rises.result c.judged_fully.ensures.0 c.if-here-ne0.false in
    let t = it_fits 64 l.count false (c.both_or_none.result && c.args.from.headed) c.fact_rises-rises.result c.judged_fully.ensures.0 c.if-here-ne0.false in (
      omega (arith, z),
      omega (arith, h),
      rw length-set i.2,
      goes_on fact_kind _ _ i.3 c.if-here-eq0.true-raw i.0 c.loop-here-test.true c.if-s-at-ne2.false i.4 f _ j c.if-here-ne0.false _ more,
      ap facts_rise more ∙ rise-more (facts_of l) _ ∙ ap₂ ◌&&◌ i.4 (sym d ∙ r),
      ap last_fact more ∙ last_more (facts_of l) _ ∙ sym x,
      omega (arith, g.0, n.1),
      λ y. n.1 ∙ no-tuple b _ (sym c.both_or_none.ensures ∙ (and_parts c.both_or_none.result c.args.from.headed t).0) (sym n.2 ∙ y) g.2,
      i.8,
    )

pub returns-in_default : goal.returns-in_default
returns-in_default c =
    let i = c.loop-here.invariant in
    rw c.refused.ensures (refused-bad fact_kind _ _ i.3 c.if-here-eq0.true-raw i.0 c.loop-here-test.true c.if-s-at-ne2.false (seen (fact_read c.args.s.now) c.fact_at.ensures.0 c.in_default.is), i.0, i.8, i.4)

pub returns-else-here-eq0 : goal.returns-else-here-eq0
returns-else-here-eq0 c =
    let i = c.loop-here.invariant in
    (ends-refused fact_kind _ _ i.3 c.if-here-eq0.false-raw, i.0, i.8, i.4)

pub returns-after-loop-here : goal.returns-after-loop-here
returns-after-loop-here c =
    let i = c.loop-here.invariant in
    (ends-short fact_kind _ _ i.3 c.loop-here-test.false, i.0, i.8, i.4)

pub returns-then-s-at-ne2 : goal.returns-then-s-at-ne2
returns-then-s-at-ne2 c =
    let i = c.loop-here.invariant in
    (ends_other fact_kind _ _ i.3 c.if-s-at-ne2.true, i.0, i.8, i.4)

pub returns-then-here-ne0 : goal.returns-then-here-ne0
returns-then-here-ne0 c =
    let l = c.loop-here.facts in
    let i = c.loop-here.invariant in
    let b = c.in-Got.bits in
    let x = c.fact_from-fact.ensures.0 in
    let d = c.fact_rises-rises.ensures ∙ ap₂ rises (sym i.5) x in
    let j = judge-same_fully 64 l.count (length (facts_of l)) false false _ (fact_bits b) c.args.from.headed _ _ c.judged_fully.ensures.0 (length-made fact_of l.items l.count (omega (arith, i.1, i.2))) refl c.both_or_none.ensures d in
    (refused_judged fact_kind _ _ i.3 c.if-here-eq0.true-raw i.0 c.loop-here-test.true c.if-s-at-ne2.false i.4 (seen (fact_read c.args.s.now) c.fact_at.ensures.0 c.in-Got.is) _ j c.if-here-ne0.true, i.0, i.8, i.4)
