use mathlib.Core.Path.{refl, sym, ◌∙◌, ap, ap₂}
use mathlib.Core.Bool.{◌&&◌}
use mathlib.Core.List.{[], ◌∷◌, ◌++◌}
use Prim.Native.Nat.{ℕ, ◌+◌}
use native.Mathlib.Omega.{arith}
use lib.Bits.{bit_and}
use lib.Dec.{eqb, ltb}
use lib.ListN.{length, length-set}
use borrow.Author.Tests.{le-ltb, ltb-false}
use Rattle.sets.specs.paper.Sets.{all_of}
use Rattle.records.specs.code.Decoded.{cut_of, cuts_of}
use Rattle.records.specs.code.PlanPasses.{cut_read}
use Rattle.sets.proofs.LoopLaws.{length-made}
use Rattle.records.proofs.Reading.{seen}
use Rattle.records.proofs.Passing.{going, ends-short, ends_other, ends-refused, refused-bad, refused_judged, goes_on, goes_later, counted}
use Rattle.records.proofs.DecisionLaws.{unresolved-more, all_more}
use Rattle.records.proofs.KindLaws.{cut_kind, once, needs_test, made_more, judge-same_fully, is_sound, not-over}
use Rattle.records.specs.paper.Fields as fields
use Rattle.records.specs.paper.Plan as paper
use borrow.Author.Rules.{rules}
use Rattle.records.proofs.plan.reading.cuts.read_cuts.Goals as goal

pub loop-here-init : goal.loop-here-init
unfolding paper.unresolved all_of
loop-here-init c =
    let a = c.args in
    let e = c.no_cuts-cuts.ensures in (
      c.requires,
      omega (arith, e.1),
      e.2,
      going cut_kind a.s.now a.from (cuts_of c.no_cuts-cuts.result) e.0,
      sym (ap paper.unresolved e.0),
      omega arith,
      ap (all_of once) e.0,
      refl,
    )

pub overflow_add-at : goal.overflow_add-at
overflow_add-at c = search rules

pub cut_from-cut-requires : goal.cut_from-cut-requires
cut_from-cut-requires c = let f = rw c.in-Got.is at c.cut_at.ensures.1 in (f.0, f.1, f.2, f.3)

pub unresolved_in-requires : goal.unresolved_in-requires
unresolved_in-requires c = c.cut_from-cut.ensures.1

pub overflow_add-total : goal.overflow_add-total
overflow_add-total c = let h = c.unresolved_in.ensures in let i = c.loop-here.invariant in search (rules, h.1, i.5)

pub cut_judged-requires : goal.cut_judged-requires
cut_judged-requires c = c.cut_from-cut.ensures.1

pub offset_bounds-cuts-n : goal.offset_bounds-cuts-n
offset_bounds-cuts-n c = let h = c.cut_judged.ensures.1 c.if-here-ne0.false in search (rules, h)

pub bounds-cuts-n : goal.bounds-cuts-n
bounds-cuts-n c = let h = c.cut_judged.ensures.1 c.if-here-ne0.false in search (rules, h)

pub overflow_add-cuts : goal.overflow_add-cuts
overflow_add-cuts c = let h = c.cut_judged.ensures.1 c.if-here-ne0.false in search (rules, h)

pub overflow_add-here : goal.overflow_add-here
overflow_add-here c = counted c.loop-here.invariant.0 (search rules)

pub loop-here-smaller : goal.loop-here-smaller
loop-here-smaller c =
    let i = c.loop-here.invariant in
    let z = goes_later cut_kind _ _ i.3 c.if-here-eq0.true-raw i.0 c.loop-here-test.true c.if-s-at-ne5.false i.6 (seen (cut_read c.args.s.now) c.cut_at.ensures.0 c.in-Got.is) in
    omega (arith, z, c.loop-here-test.true)

pub loop-here-preserved : goal.loop-here-preserved
unfolding cut_of
loop-here-preserved c =
    let l = c.loop-here.cuts in
    let i = c.loop-here.invariant in
    let b = c.in-Got.bits in
    let f = seen (cut_read c.args.s.now) c.cut_at.ensures.0 c.in-Got.is in
    let z = goes_later cut_kind _ _ i.3 c.if-here-eq0.true-raw i.0 c.loop-here-test.true c.if-s-at-ne5.false i.6 f in
    let h = c.cut_judged.ensures.1 c.if-here-ne0.false in
    let e = ap (λ (y : paper.Cut). y.decisions) c.cut_from-cut.ensures.0 in
    let u = c.unresolved_in.ensures.0 ∙ ap paper.unresolved_in e in
    let o = ap₂ (λ (x y : ℕ). ltb 16 (x + y)) i.4 u in
    let d = ap paper.decided_once e in
    let j = judge-same_fully 16 l.count (length (cuts_of l)) _ _ _ (fields.needs 7 b) c.args.from.headed _ _ c.cut_judged.ensures.0 (length-made cut_of l.items l.count (omega (arith, i.1, i.2))) o (needs_test b 7) d in
    let k = c.cut_from-cut.result in
    let total = c.loop-here.pending + c.unresolved_in.result in
    let fits = eqb (bit_and b 7) 7 && c.args.from.headed in
    let over = not-over 16 l.count (ltb 16 total) fits (once (cut_of k)) c.cut_judged.ensures.0 c.if-here-ne0.false in
    let sound = is_sound 16 l.count (ltb 16 total) fits (once (cut_of k)) c.cut_judged.ensures.0 c.if-here-ne0.false in
    let more = made_more cut_of l.items l.count k (omega (arith, i.2, h)) ∙ ap (λ (y : paper.Cut). cuts_of l ++ (y ∷ [])) c.cut_from-cut.ensures.0 in (
      omega (arith, z),
      omega (arith, h),
      rw length-set i.2,
      goes_on cut_kind _ _ i.3 c.if-here-eq0.true-raw i.0 c.loop-here-test.true c.if-s-at-ne5.false i.6 f _ j c.if-here-ne0.false _ more,
      ap₂ ◌+◌ i.4 u ∙ sym (ap paper.unresolved more ∙ unresolved-more (cuts_of l) _),
      ltb-false 16 total over,
      ap (all_of once) more ∙ all_more once (cuts_of l) _ ∙ ap₂ ◌&&◌ i.6 (sym d ∙ sound),
      i.7,
    )

pub returns-in_default : goal.returns-in_default
returns-in_default c =
    let i = c.loop-here.invariant in rw c.refused.ensures (
      refused-bad cut_kind _ _ i.3 c.if-here-eq0.true-raw i.0 c.loop-here-test.true c.if-s-at-ne5.false (seen (cut_read c.args.s.now) c.cut_at.ensures.0 c.in_default.is),
      i.0,
      i.7,
      ap (ltb 16) (sym i.4) ∙ le-ltb 16 c.loop-here.pending i.5,
      i.6,
    )

pub returns-else-here-eq0 : goal.returns-else-here-eq0
returns-else-here-eq0 c =
    let i = c.loop-here.invariant in
    (ends-refused cut_kind _ _ i.3 c.if-here-eq0.false-raw, i.0, i.7, ap (ltb 16) (sym i.4) ∙ le-ltb 16 c.loop-here.pending i.5, i.6)

pub returns-after-loop-here : goal.returns-after-loop-here
returns-after-loop-here c =
    let i = c.loop-here.invariant in
    (ends-short cut_kind _ _ i.3 c.loop-here-test.false, i.0, i.7, ap (ltb 16) (sym i.4) ∙ le-ltb 16 c.loop-here.pending i.5, i.6)

pub returns-then-s-at-ne5 : goal.returns-then-s-at-ne5
returns-then-s-at-ne5 c =
    let i = c.loop-here.invariant in
    (ends_other cut_kind _ _ i.3 c.if-s-at-ne5.true, i.0, i.7, ap (ltb 16) (sym i.4) ∙ le-ltb 16 c.loop-here.pending i.5, i.6)

pub returns-then-here-ne0 : goal.returns-then-here-ne0
unfolding cut_of
returns-then-here-ne0 c =
    let l = c.loop-here.cuts in
    let i = c.loop-here.invariant in
    let b = c.in-Got.bits in
    let e = ap (λ (y : paper.Cut). y.decisions) c.cut_from-cut.ensures.0 in
    let u = c.unresolved_in.ensures.0 ∙ ap paper.unresolved_in e in
    let o = ap₂ (λ (x y : ℕ). ltb 16 (x + y)) i.4 u in
    let d = ap paper.decided_once e in
    let j = judge-same_fully 16 l.count (length (cuts_of l)) _ _ _ (fields.needs 7 b) c.args.from.headed _ _ c.cut_judged.ensures.0 (length-made cut_of l.items l.count (omega (arith, i.1, i.2))) o (needs_test b 7) d in (
      refused_judged cut_kind _ _ i.3 c.if-here-eq0.true-raw i.0 c.loop-here-test.true c.if-s-at-ne5.false i.6 (seen (cut_read c.args.s.now) c.cut_at.ensures.0 c.in-Got.is) _ j c.if-here-ne0.true,
      i.0,
      i.7,
      ap (ltb 16) (sym i.4) ∙ le-ltb 16 c.loop-here.pending i.5,
      i.6,
    )
