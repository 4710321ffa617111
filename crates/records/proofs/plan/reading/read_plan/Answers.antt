-- A plan out of its bytes is what the passes over its kinds say.
use mathlib.Core.Path.{refl}
use mathlib.Core.List.{List}
use Prim.Native.Nat.{ℕ}
use native.Mathlib.Omega.{arith}
use Rattle.records.specs.paper.Plan.{Plan, empty_plan, plan_records}
use Rattle.records.specs.code.Decoded.{if_given, plan_of, headings_of, facts_of, nodes_of, edges_of, cuts_of, attachments_of, bars_of, statuses_of}
use Rattle.records.specs.code.PlanRead.{plan_read_of}
use Rattle.records.specs.code.PlanPasses.{plan_reading, with_headings, with_facts, with_nodes, with_edges, with_cuts, with_attachments, with_bars, with_statuses}
use Rattle.records.specs.declared.fields.passing.Passing.{Passing}
use Rattle.records.proofs.Passing.{Reached, next-pass, all_read}
use Rattle.records.proofs.KindLaws.{plan-kinds}
use Rattle.records.proofs.PlanLaws.{clean-facts, clean-nodes, clean-edges, clean-cuts, clean-attachments, clean-bars, clean-statuses, first-pass}
use Rattle.records.proofs.plan.reading.read_plan.Lts as lts
use Rattle.records.proofs.plan.reading.read_plan.Reads as reads
use Rattle.records.proofs.plan.reading.read_plan.Tie as tie
use Rattle.records.proofs.plan.reading.read_plan.Goals as goal

abbrev Read : List ℕ → ℕ → Passing → Plan → Type 0
Read s = Reached plan_reading s (plan_records s)

abbrev bytes : lts.After-read_heading tie.the-claims reads.Pre reads.Post → List ℕ
bytes c = c.args.s.now

-- ---- what was read, and what reading all gives, after each pass
abbrev plan1 : lts.After-read_heading tie.the-claims reads.Pre reads.Post → Plan
plan1 c = let h = c.read_heading-h.result in with_headings empty_plan (headings_of h.headings h.relation h.chained h.chain)

read1 : (c : lts.After-read_heading tie.the-claims reads.Pre reads.Post) → Read (bytes c) 2 c.read_heading-h.result.next (plan1 c)
read1 c =
    let h = c.read_heading-h.result in
    let e = c.read_heading-h.ensures in
    first-pass (bytes c) h.next h.headings (record { relation = h.relation; chain = if_given h.chained h.chain }) e.0 e.2 e.3

abbrev plan2 : lts.After-read_facts tie.the-claims reads.Pre reads.Post → Plan
plan2 c = with_facts (plan1 c.before.before) (facts_of c.read_facts-f.result.facts)

read2 : (c : lts.After-read_facts tie.the-claims reads.Pre reads.Post) → Read (bytes c.before.before) 3 c.read_facts-f.result.next (plan2 c)
read2 c =
    let w = read1 c.before.before in
    let r = c.read_facts-f.result in
    let e = c.read_facts-f.ensures in
    next-pass w with_facts r.next (facts_of r.facts) refl e.0 e.2 (clean-facts w.clean (facts_of r.facts) e.3)

abbrev plan3 : lts.After-read_nodes tie.the-claims reads.Pre reads.Post → Plan
plan3 c = with_nodes (plan2 c.before.before) (nodes_of c.read_nodes-n.result.nodes)

read3 : (c : lts.After-read_nodes tie.the-claims reads.Pre reads.Post) → Read (bytes c.before.before.before.before) 4 c.read_nodes-n.result.next (plan3 c)
read3 c =
    let w = read2 c.before.before in
    let r = c.read_nodes-n.result in
    let e = c.read_nodes-n.ensures in
    next-pass w with_nodes r.next (nodes_of r.nodes) refl e.0 e.2 (clean-nodes w.clean (nodes_of r.nodes))

abbrev plan4 : lts.After-read_edges tie.the-claims reads.Pre reads.Post → Plan
plan4 c = with_edges (plan3 c.before.before) (edges_of c.read_edges-e.result.edges)

read4 : (c : lts.After-read_edges tie.the-claims reads.Pre reads.Post) → Read (bytes c.before.before.before.before.before.before) 5 c.read_edges-e.result.next (plan4 c)
read4 c =
    let w = read3 c.before.before in
    let r = c.read_edges-e.result in
    let e = c.read_edges-e.ensures in
    next-pass w with_edges r.next (edges_of r.edges) refl e.0 e.2 (clean-edges w.clean (edges_of r.edges))

abbrev plan5 : lts.After-read_cuts tie.the-claims reads.Pre reads.Post → Plan
plan5 c = with_cuts (plan4 c.before.before) (cuts_of c.read_cuts-c.result.cuts)

read5 : (c : lts.After-read_cuts tie.the-claims reads.Pre reads.Post) → Read (bytes c.before.before.before.before.before.before.before.before) 6 c.read_cuts-c.result.next (plan5 c)
read5 c =
    let w = read4 c.before.before in
    let r = c.read_cuts-c.result in
    let e = c.read_cuts-c.ensures in
    next-pass w with_cuts r.next (cuts_of r.cuts) refl e.0 e.2 (clean-cuts w.clean (cuts_of r.cuts) e.3 e.4)

abbrev plan6 : lts.After-read_attachments tie.the-claims reads.Pre reads.Post → Plan
plan6 c = with_attachments (plan5 c.before.before) (attachments_of c.read_attachments-a.result.attachments)

read6 : (c : lts.After-read_attachments tie.the-claims reads.Pre reads.Post) → Read (bytes c.before.before.before.before.before.before.before.before.before.before) 7 c.read_attachments-a.result.next (plan6 c)
read6 c =
    let w = read5 c.before.before in
    let r = c.read_attachments-a.result in
    let e = c.read_attachments-a.ensures in
    next-pass w with_attachments r.next (attachments_of r.attachments) refl e.0 e.2 (clean-attachments w.clean (attachments_of r.attachments))

abbrev plan7 : lts.After-read_bars tie.the-claims reads.Pre reads.Post → Plan
plan7 c = with_bars (plan6 c.before.before) (bars_of c.read_bars-b.result.bars)

read7 : (c : lts.After-read_bars tie.the-claims reads.Pre reads.Post) → Read (bytes c.before.before.before.before.before.before.before.before.before.before.before.before) 8 c.read_bars-b.result.next (plan7 c)
read7 c =
    let w = read6 c.before.before in
    let r = c.read_bars-b.result in
    let e = c.read_bars-b.ensures in
    next-pass w with_bars r.next (bars_of r.bars) refl e.0 e.2 (clean-bars w.clean (bars_of r.bars))

abbrev plan8 : lts.After-read_statuses tie.the-claims reads.Pre reads.Post → Plan
plan8 c = with_statuses (plan7 c.before.before) (statuses_of c.read_statuses-t.result.statuses)

read8 : (c : lts.After-read_statuses tie.the-claims reads.Pre reads.Post) → Read (bytes c.before.before.before.before.before.before.before.before.before.before.before.before.before.before) 9 c.read_statuses-t.result.next (plan8 c)
read8 c =
    let w = read7 c.before.before in
    let r = c.read_statuses-t.result in
    let e = c.read_statuses-t.ensures in
    next-pass w with_statuses r.next (statuses_of r.statuses) refl e.0 e.2 (clean-statuses w.clean (statuses_of r.statuses))

pub returns : goal.returns
unfolding plan_read_of plan_of
returns c = let e = c.ended-end.ensures in all_read (read8 c.before.before.before.before.before.before.before.before.before.before) (omega (arith, plan-kinds)) e.0 e.1
