-- `finish::finish`: with no world the lines of kind 6 or refusal 14; else refusal 13, or lines and events.
use mathlib.Core.Path.{◌≡◌, refl, sym, ap, ◌∙◌}
use mathlib.Core.Logic.{inl, inr}
use mathlib.Core.List.{List}
use Prim.Native.Nat.{ℕ, min}
use native.Mathlib.Omega.{arith}
use lib.ListN.{length}
use lib.Seq.{length-take-le}
use Rattle.records.specs.declared.plan.Plan.{Plan}
use Rattle.records.specs.code.Decoded.{plan_of, cut_of}
use Rattle.expressions.specs.code.Influences.{sets_of}
use Rattle.expressions.specs.paper.Rules.{cut_count}
use Rattle.expressions.proofs.ListLaws.{made-length}
use Rattle.report.specs.code.EventsWritten.{event_count}
use Rattle.report.proofs.FinishLaws.{none, over, told, rule_events}
use Rattle.report.proofs.finish.finish.Goals as goal
use Rattle.report.proofs.finish.finish.Goals.{then-walked-via-then-walked, then-walked-via-else-walked+then-events-total}

-- the number of cuts, and so the events by rule
counted : (p : Plan) (sums noted : List (List ℕ)) (defaults n count : ℕ) → length p.cuts.items ≡ 16 → n ≡ min p.cuts.count 16 → count ≡ event_count sums noted defaults n
    → count ≡ event_count sums noted defaults (cut_count (plan_of p))
unfolding plan_of
counted p sums noted defaults n count long e k = k ∙ ap (event_count sums noted defaults) (sym (made-length cut_of p.cuts.items p.cuts.count 16 n long e))

pub returns-then-sums-eq0 : goal.returns-then-sums-eq0
returns-then-sums-eq0 c = none c.args.wanted c.requires c.if-sums-eq0.true c.without_worlds.ensures

-- too much: one did not fit, or all do not
pub returns-then-walked : goal.returns-then-walked
returns-then-walked c =
    over c.args.wanted c.requires c.count_events-count.result c.clear.new.out c.if-sums-eq0.false
    (counted c.args.plan c.args.sums.now c.args.noted.now c.args.opens.defaults c.min.result c.count_events-count.result (omega (arith, c.well_formed)) c.min.ensures c.count_events-count.ensures.0)
    (elim c.then-walked.branch [ then-walked-via-then-walked t ↦ inl t.if-walked.true | then-walked-via-else-walked+then-events-total t ↦ inr t.if-events-total.true ])
    c.clear.ensures

pub write_open-requires : goal.write_open-requires
write_open-requires c =
    let f = c.requires.facts in
    let t = length-take-le c.args.opens.influence.count c.args.opens.influence.sets (omega (arith, c.well_formed, f.3)) in
    (c.requires.room, f.1, omega (arith, t, f.0), omega (arith, t, f.2))

pub write_events-requires : goal.write_events-requires
write_events-requires c =
    let e = counted c.args.plan c.args.sums.now c.args.noted.now c.args.opens.defaults c.min.result c.count_events-count.result (omega (arith, c.well_formed)) c.min.ensures c.count_events-count.ensures.0 in
    let h = c.if-events-total.false in
    (rule_events c.args.wanted c.requires (length c.args.events.now) (omega arith), h)

pub returns : goal.returns
unfolding sets_of
returns c =
    told c.args.wanted c.requires c.count_events-count.result c.args.walked.listing.count c.write_open.new.lines c.write_events.new.events c.size.result c.if-sums-eq0.false
    (counted c.args.plan c.args.sums.now c.args.noted.now c.args.opens.defaults c.min.result c.count_events-count.result (omega (arith, c.well_formed)) c.min.ensures c.count_events-count.ensures.0) refl
    c.if-walked.false c.if-events-total.false c.write_open.ensures c.write_events.ensures c.size.ensures
