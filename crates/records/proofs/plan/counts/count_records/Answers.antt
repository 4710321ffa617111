-- The counts of records, each the lesser of its field and its limit.
use native.Mathlib.Nat.{min-le_right}
use lib.ListN.{length-take}
use mathlib.Core.Path.{◌≡◌, sym, ◌∙◌}
use Prim.Native.Nat.{ℕ, min, ◌≤◌}
use Rattle.records.specs.code.Decoded.{plan_of, fact_of, node_of, edge_of, cut_of, attachment_of, bar_of, status_of}
use Rattle.records.proofs.ListLaws.{length_front}
use Rattle.records.proofs.plan.counts.count_records.Goals as goal

at_most : {r : ℕ} (n m : ℕ) → r ≡ min n m → r ≤ m
at_most n m e = rw e (min-le_right n m)

pub returns : goal.returns
unfolding plan_of
returns c =
    let s = c in
    let g = s.well_formed.0.1.1.1.1.1.1 in
    let p = s.args.plan in (
      record {
        headings = c.min.ensures ∙ sym (length-take p.headings _);
        facts = c.min-2.ensures ∙ sym (length_front fact_of p.facts.items p.facts.count 64 g.0.1.1.1.0.1.0.1);
        nodes = c.min-3.ensures ∙ sym (length_front node_of p.nodes.items p.nodes.count 256 g.1.0.1.1.1.0.1.0.1);
        edges = c.min-4.ensures ∙ sym (length_front edge_of p.edges.items p.edges.count 64 g.1.1.0.1.1.1.0.1.0.1);
        cuts = c.min-5.ensures ∙ sym (length_front cut_of p.cuts.items p.cuts.count 16 g.1.1.1.0.1.1.1.0.1.0.1);
        attachments = c.min-6.ensures ∙ sym (length_front attachment_of p.attachments.items p.attachments.count 32 g.1.1.1.1.0.1.1.1.0.1.0.1);
        bars = c.min-7.ensures ∙ sym (length_front bar_of p.bars.items p.bars.count 32 g.1.1.1.1.1.0.1.1.1.0.1.0.1);
        statuses = c.min-8.ensures ∙ sym (length_front status_of p.statuses.items p.statuses.count 32 g.1.1.1.1.1.1.0.1.1.1.0.1.0.1);
      },
      record {
        headings = at_most p.headings 1 c.min.ensures;
        facts = at_most p.facts.count 64 c.min-2.ensures;
        nodes = at_most p.nodes.count 256 c.min-3.ensures;
        edges = at_most p.edges.count 64 c.min-4.ensures;
        cuts = at_most p.cuts.count 16 c.min-5.ensures;
        attachments = at_most p.attachments.count 32 c.min-6.ensures;
        bars = at_most p.bars.count 32 c.min-7.ensures;
        statuses = at_most p.statuses.count 32 c.min-8.ensures;
      },
    )
