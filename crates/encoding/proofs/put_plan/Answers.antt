-- `put_plan`: kind after kind.
use mathlib.Core.List.{map, ◌++◌}
use native.Mathlib.Omega.{arith}
use lib.ListN.{take}
use Rattle.sets.proofs.Every.{all_any}
use Rattle.records.specs.paper.Plan.{plan_formats}
use Rattle.records.proofs.UsedLaws.{used_take}
use Rattle.records.specs.code.Decoded.{plan_of, if_given, facts_of, nodes_of, edges_of, cuts_of, attachments_of, bars_of, statuses_of, fact_of, node_of, edge_of, cut_of, attachment_of, bar_of, status_of}
use Rattle.encoding.specs.paper.Encoded.{record_bytes, heading_raw, fact_raw, node_raw, edge_raw, cut_raw, attachment_raw, bar_raw, status_raw, raws_of, plan_bytes}
use Rattle.encoding.proofs.PlanPut.{heading_then, next_kind, last_kind, sound-few}
use Rattle.encoding.proofs.put_plan.Goals as goal

pub put_each-next-requires-4 : goal.put_each-next-requires-4
unfolding plan_of
put_each-next-requires-4 c =
    let cuts = c.args.plan.cuts in
    rw (used_take cuts.items cuts.count 16 c.min-4.result (omega (arith, c.well_formed)) c.min-4.ensures) (sound-few (plan_of c.args.plan) (take cuts.count cuts.items) c.requires.cuts)

pub put_each-next-requires-5 : goal.put_each-next-requires-5
put_each-next-requires-5 c = all_any _

pub put_each-next-requires-6 : goal.put_each-next-requires-6
put_each-next-requires-6 c = all_any _

pub put_each-requires : goal.put_each-requires
put_each-requires c = all_any _

pub returns : goal.returns
unfolding plan_of plan_bytes raws_of
returns c =
    let p = c.args.plan in
    heading_then (record_bytes plan_formats) heading_raw p.headings (record { relation = p.relation; chain = if_given p.chained p.chain }) _ _ _ _ c.requires.heading c.put_heading-next.ensures
    (next_kind fact_raw fact_of p.facts.items p.facts.count 64 _ (omega (arith, c.well_formed)) c.min.ensures _ _ c.put_each-next.ensures _ _
    (next_kind node_raw node_of p.nodes.items p.nodes.count 256 _ (omega (arith, c.well_formed)) c.min-2.ensures _ _ c.put_each-next-2.ensures _ _
    (next_kind edge_raw edge_of p.edges.items p.edges.count 64 _ (omega (arith, c.well_formed)) c.min-3.ensures _ _ c.put_each-next-3.ensures _ _
    (next_kind cut_raw cut_of p.cuts.items p.cuts.count 16 _ (omega (arith, c.well_formed)) c.min-4.ensures _ _ c.put_each-next-4.ensures _ _
    (next_kind attachment_raw attachment_of p.attachments.items p.attachments.count 32 _ (omega (arith, c.well_formed)) c.min-5.ensures _ _ c.put_each-next-5.ensures _ _
    (next_kind bar_raw bar_of p.bars.items p.bars.count 32 _ (omega (arith, c.well_formed)) c.min-6.ensures _ _ c.put_each-next-6.ensures _ _
    (last_kind status_raw status_of p.statuses.items p.statuses.count 32 _ (omega (arith, c.well_formed)) c.min-7.ensures _ _ c.put_each.ensures)))))))
