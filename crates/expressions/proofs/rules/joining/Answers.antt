-- `rules::joining`: edges, cuts, attachments and bars, one behind the other.
use mathlib.Core.Path.{sym, ◌∙◌}
use Prim.Native.Nat.{ℕ}
use native.Mathlib.Omega.{arith}
use borrow.Author.Rules.{rules}
use Rattle.sets.proofs.Every.{all_any}
use Rattle.records.specs.code.Decoded.{plan_of, edge_of, cut_of, attachment_of, bar_of}
use Rattle.expressions.specs.code.Listed.{used_at, joining_uses, cut_used, held_by_cut, attachment_used, bar_used, held_by_bar}
use Rattle.expressions.specs.code.Coded.{EndsFit, AnchorFits}
use Rattle.expressions.specs.paper.Influence.{edge_used}
use Rattle.expressions.specs.paper.Rules.{ends_of, with_anchor_of}
use Rattle.expressions.proofs.FitLaws.{edges_fit, attachments-fit}
use Rattle.expressions.proofs.RuleLaws.{each_in_use, ruled_in_use, added_then, rule_sets_lem}
use Rattle.expressions.proofs.rules.joining.Goals as goal

pub add-n-requires-clause-each : goal.add-n-requires-clause-each
unfolding plan_of
add-n-requires-clause-each c =
    let es = c.args.plan.edges in
    each_in_use edge_of es.items es.count 64 _ (omega (arith, c.well_formed)) c.min.ensures EndsFit (edges_fit (plan_of c.args.plan) c.requires) (λ e h. search rules)

pub add-n-requires-3-clause-each : goal.add-n-requires-3-clause-each
unfolding plan_of
add-n-requires-3-clause-each c =
    let ts = c.args.plan.attachments in
    each_in_use attachment_of ts.items ts.count 32 _ (omega (arith, c.well_formed)) c.min-3.ensures AnchorFits (attachments-fit (plan_of c.args.plan) c.requires) (λ a h. search rules)

pub returns : goal.returns
unfolding plan_of joining_uses edge_of cut_of attachment_of bar_of
returns c =
    let es = c.args.plan.edges in
    let cs = c.args.plan.cuts in
    let ts = c.args.plan.attachments in
    let bs = c.args.plan.bars in
    let at : ℕ → ℕ = used_at c.args.nodes.now in
    let edges = ruled_in_use edge_of es.items es.count 64 _ (omega (arith, c.well_formed)) c.min.ensures EndsFit (edges_fit (plan_of c.args.plan) c.requires) (edge_used at) ends_of c.add-n.ensures.added (λ e h r told. search rules) in
    let cuts = ruled_in_use cut_of cs.items cs.count 16 _ (omega (arith, c.well_formed)) c.min-2.ensures (λ x. Unit) (all_any _) (cut_used at) held_by_cut c.add-n-2.ensures.added (λ e h r told. search rules) in
    let attachments = ruled_in_use attachment_of ts.items ts.count 32 _ (omega (arith, c.well_formed)) c.min-3.ensures AnchorFits (attachments-fit (plan_of c.args.plan) c.requires) (attachment_used at) with_anchor_of c.add-n-3.ensures.added (λ e h r told. search rules) in
    let bars = ruled_in_use bar_of bs.items bs.count 32 _ (omega (arith, c.well_formed)) c.min-4.ensures (λ x. Unit) (all_any _) (bar_used at) held_by_bar c.add.ensures.added (λ e h r told. search rules) in
    let added = added_then edges (added_then cuts (added_then attachments bars)) in
    record {
      uses = added.uses;
      persons = added.persons ∙ sym (rule_sets_lem (plan_of c.args.plan));
      few = omega (arith, c.add.ensures.count, c.add-n-3.ensures.count, c.add-n-2.ensures.count, c.add-n.ensures.count);
      room = search rules;
    }
