-- Refusal 4 over all kinds in their order.
use mathlib.Core.Path.{◌≡◌, refl, sym, ap, ◌∙◌}
use mathlib.Core.List.{List, ◌++◌}
use Prim.Native.Nat.{ℕ, ◌+◌}
use native.Mathlib.Omega.{arith}
use lib.ListN.{length, length-map}
use Rattle.records.specs.paper.Fields.{fine, first_fault}
use Rattle.records.specs.paper.Plan as paper
use Rattle.records.specs.code.Decoded.{plan_of}
use Rattle.records.specs.code.Check.{checked_of}
use Rattle.records.specs.code.Named.{CountsOf, SaysFirst, node_faults, edge_faults, cut_faults, attachment_faults, bar_faults, status_faults}
use Rattle.records.specs.declared.plan.counts.Counts.{Counts}
use Rattle.records.specs.declared.checked.Checked.{Checked}
use Rattle.records.specs.declared.checked.Checked.TheVariants.{Accepted}
use Rattle.records.specs.declared.plan.Plan.{Plan}
use Rattle.records.proofs.NamingLaws.{length-each}
use Rattle.records.proofs.FaultLaws.{kind-refused, kind_passed}
use Rattle.records.proofs.plan.checks.name_faults.naming.Goals as goal

-- the faults of each kind and of the kinds after it, and the record at which the kind begins
module _ (p : Plan) (n : Counts) (h : CountsOf (plan_of p) n) where
  abbrev P : paper.Plan
  P = plan_of p

  abbrev from-bars : List ℕ
  from-bars = bar_faults P p.bars ++ status_faults P p.statuses

  abbrev from-attachments : List ℕ
  from-attachments = attachment_faults P p.attachments ++ from-bars

  abbrev from-cuts : List ℕ
  from-cuts = cut_faults P p.cuts ++ from-attachments

  abbrev from-edges : List ℕ
  from-edges = edge_faults P p.edges ++ from-cuts

  abbrev at-nodes : ℕ
  at-nodes = n.headings + n.facts

  abbrev at-edges : ℕ
  at-edges = at-nodes + n.nodes

  abbrev at-cuts : ℕ
  at-cuts = at-edges + n.edges

  abbrev at-attachments : ℕ
  at-attachments = at-cuts + n.cuts

  abbrev at-bars : ℕ
  at-bars = at-attachments + n.attachments

  all : {s : Checked} → SaysFirst P at-nodes (node_faults P p.nodes ++ from-edges) s → SaysFirst P (paper.nodes_at P) (paper.naming_faults P) s
  unfolding plan_of paper.naming_faults
  all e = let z : at-nodes ≡ paper.nodes_at P = omega (arith, h.headings, h.facts) in e ∙ ap (λ (i : ℕ). checked_of (first_fault i (paper.naming_faults P) (fine P))) z

  long-nodes : at-edges ≡ at-nodes + length (node_faults P p.nodes)
  unfolding plan_of
  long-nodes = ap (λ (i : ℕ). at-nodes + i) (h.nodes ∙ sym (length-each _ 0 P.nodes))

  long-edges : at-cuts ≡ at-edges + length (edge_faults P p.edges)
  unfolding plan_of
  long-edges = ap (λ (i : ℕ). at-edges + i) (h.edges ∙ sym (length-map P.edges _))

  long-cuts : at-attachments ≡ at-cuts + length (cut_faults P p.cuts)
  unfolding plan_of
  long-cuts = ap (λ (i : ℕ). at-cuts + i) (h.cuts ∙ sym (length-map P.cuts _))

  long-attachments : at-bars ≡ at-attachments + length (attachment_faults P p.attachments)
  unfolding plan_of
  long-attachments = ap (λ (i : ℕ). at-attachments + i) (h.attachments ∙ sym (length-map P.attachments _))

  long-bars : at-bars + n.bars ≡ at-bars + length (bar_faults P p.bars)
  unfolding plan_of
  long-bars = ap (λ (i : ℕ). at-bars + i) (h.bars ∙ sym (length-map P.bars _))

  -- a kind in which nothing was found: what is said of the kinds after it is said of it and them
  module _ {r s : Checked} (e : r ≡ Accepted) where
    over-nodes : SaysFirst P at-nodes (node_faults P p.nodes) r → SaysFirst P at-edges from-edges s → SaysFirst P (paper.nodes_at P) (paper.naming_faults P) s
    over-nodes is z = all (kind_passed at-nodes at-edges (node_faults P p.nodes) from-edges P r long-nodes is e z)

    over-edges : SaysFirst P at-edges (edge_faults P p.edges) r → SaysFirst P at-cuts from-cuts s → SaysFirst P at-edges from-edges s
    over-edges is z = kind_passed at-edges at-cuts (edge_faults P p.edges) from-cuts P r long-edges is e z

    over-cuts : SaysFirst P at-cuts (cut_faults P p.cuts) r → SaysFirst P at-attachments from-attachments s → SaysFirst P at-cuts from-cuts s
    over-cuts is z = kind_passed at-cuts at-attachments (cut_faults P p.cuts) from-attachments P r long-cuts is e z

    over-attachments : SaysFirst P at-attachments (attachment_faults P p.attachments) r → SaysFirst P at-bars from-bars s → SaysFirst P at-attachments from-attachments s
    over-attachments is z = kind_passed at-attachments at-bars (attachment_faults P p.attachments) from-bars P r long-attachments is e z

    over-bars : SaysFirst P at-bars (bar_faults P p.bars) r → SaysFirst P (at-bars + n.bars) (status_faults P p.statuses) s → SaysFirst P at-bars from-bars s
    over-bars is z = kind_passed at-bars (at-bars + n.bars) (bar_faults P p.bars) (status_faults P p.statuses) P r long-bars is e z

pub overflow_add-at_nodes : goal.overflow_add-at_nodes
overflow_add-at_nodes c = omega (arith, c.count_records-counts.ensures.1)

pub node_faults-a-requires : goal.node_faults-a-requires
node_faults-a-requires c = omega (arith, c.count_records-counts.ensures.1)

pub returns-in_default : goal.returns-in_default
unfolding plan_of
returns-in_default c =
    let p = c.args.plan in let n = c.count_records-counts in
    (all p n.result n.ensures.0 (kind-refused (at-nodes p n.result n.ensures.0) (at-edges p n.result n.ensures.0) (node_faults (plan_of p) p.nodes) (from-edges p n.result n.ensures.0) (plan_of p) c.node_faults-a.result (long-nodes p n.result n.ensures.0) (c.node_faults-a.ensures (plan_of p) n.ensures.0.facts) c.in_default.is))

pub overflow_add-at_edges : goal.overflow_add-at_edges
overflow_add-at_edges c = omega (arith, c.count_records-counts.ensures.1)

pub edge_faults-b-requires : goal.edge_faults-b-requires
edge_faults-b-requires c = omega (arith, c.count_records-counts.ensures.1)

pub returns-in_default-b : goal.returns-in_default-b
unfolding plan_of
returns-in_default-b c =
    let p = c.args.plan in let n = c.count_records-counts in
    (over-nodes p n.result n.ensures.0 c.in-Accepted.is (c.node_faults-a.ensures (plan_of p) n.ensures.0.facts) (kind-refused (at-edges p n.result n.ensures.0) (at-cuts p n.result n.ensures.0) (edge_faults (plan_of p) p.edges) (from-cuts p n.result n.ensures.0) (plan_of p) c.edge_faults-b.result (long-edges p n.result n.ensures.0) (c.edge_faults-b.ensures (plan_of p) n.ensures.0.nodes) c.in_default-b.is))

pub overflow_add-at_cuts : goal.overflow_add-at_cuts
overflow_add-at_cuts c = omega (arith, c.count_records-counts.ensures.1)

pub cut_faults-c-requires : goal.cut_faults-c-requires
cut_faults-c-requires c = omega (arith, c.count_records-counts.ensures.1)

pub returns-in_default-c : goal.returns-in_default-c
unfolding plan_of
returns-in_default-c c =
    let p = c.args.plan in let n = c.count_records-counts in let m = c.boolean_facts-booleans in
    (over-nodes p n.result n.ensures.0 c.in-Accepted.is (c.node_faults-a.ensures (plan_of p) n.ensures.0.facts)
    (over-edges p n.result n.ensures.0 c.in-Accepted-b.is (c.edge_faults-b.ensures (plan_of p) n.ensures.0.nodes) (kind-refused (at-cuts p n.result n.ensures.0) (at-attachments p n.result n.ensures.0) (cut_faults (plan_of p) p.cuts) (from-attachments p n.result n.ensures.0) (plan_of p) c.cut_faults-c.result (long-cuts p n.result n.ensures.0) (c.cut_faults-c.ensures (plan_of p) (m.ensures (plan_of p) refl) n.ensures.0) c.in_default-c.is)))

pub overflow_add-at_attachments : goal.overflow_add-at_attachments
overflow_add-at_attachments c = omega (arith, c.count_records-counts.ensures.1)

pub attachment_faults-d-requires : goal.attachment_faults-d-requires
attachment_faults-d-requires c = omega (arith, c.count_records-counts.ensures.1)

pub returns-in_default-d : goal.returns-in_default-d
unfolding plan_of
returns-in_default-d c =
    let p = c.args.plan in let n = c.count_records-counts in let m = c.boolean_facts-booleans in
    (over-nodes p n.result n.ensures.0 c.in-Accepted.is (c.node_faults-a.ensures (plan_of p) n.ensures.0.facts)
    (over-edges p n.result n.ensures.0 c.in-Accepted-b.is (c.edge_faults-b.ensures (plan_of p) n.ensures.0.nodes)
    (over-cuts p n.result n.ensures.0 c.in-Accepted-c.is (c.cut_faults-c.ensures (plan_of p) (m.ensures (plan_of p) refl) n.ensures.0) (kind-refused (at-attachments p n.result n.ensures.0) (at-bars p n.result n.ensures.0) (attachment_faults (plan_of p) p.attachments) (from-bars p n.result n.ensures.0) (plan_of p) c.attachment_faults-d.result (long-attachments p n.result n.ensures.0) (c.attachment_faults-d.ensures (plan_of p) (m.ensures (plan_of p) refl) n.ensures.0.nodes) c.in_default-d.is))))

pub overflow_add-at_bars : goal.overflow_add-at_bars
overflow_add-at_bars c = omega (arith, c.count_records-counts.ensures.1)

pub bar_faults-e-requires : goal.bar_faults-e-requires
bar_faults-e-requires c = omega (arith, c.count_records-counts.ensures.1)

pub returns-in_default-e : goal.returns-in_default-e
unfolding plan_of
returns-in_default-e c =
    let p = c.args.plan in let n = c.count_records-counts in let m = c.boolean_facts-booleans in
    (over-nodes p n.result n.ensures.0 c.in-Accepted.is (c.node_faults-a.ensures (plan_of p) n.ensures.0.facts)
    (over-edges p n.result n.ensures.0 c.in-Accepted-b.is (c.edge_faults-b.ensures (plan_of p) n.ensures.0.nodes)
    (over-cuts p n.result n.ensures.0 c.in-Accepted-c.is (c.cut_faults-c.ensures (plan_of p) (m.ensures (plan_of p) refl) n.ensures.0)
    (over-attachments p n.result n.ensures.0 c.in-Accepted-d.is (c.attachment_faults-d.ensures (plan_of p) (m.ensures (plan_of p) refl) n.ensures.0.nodes) (kind-refused (at-bars p n.result n.ensures.0) (at-bars p n.result n.ensures.0 + n.result.bars) (bar_faults (plan_of p) p.bars) (status_faults (plan_of p) p.statuses) (plan_of p) c.bar_faults-e.result (long-bars p n.result n.ensures.0) (c.bar_faults-e.ensures (plan_of p) n.ensures.0.nodes) c.in_default-e.is)))))

pub overflow_add-at_bars-2 : goal.overflow_add-at_bars-2
overflow_add-at_bars-2 c = omega (arith, c.count_records-counts.ensures.1)

pub status_faults-requires : goal.status_faults-requires
status_faults-requires c = omega (arith, c.count_records-counts.ensures.1)

pub returns : goal.returns
unfolding plan_of
returns c =
    let p = c.args.plan in let n = c.count_records-counts in let m = c.boolean_facts-booleans in
    (over-nodes p n.result n.ensures.0 c.in-Accepted.is (c.node_faults-a.ensures (plan_of p) n.ensures.0.facts)
    (over-edges p n.result n.ensures.0 c.in-Accepted-b.is (c.edge_faults-b.ensures (plan_of p) n.ensures.0.nodes)
    (over-cuts p n.result n.ensures.0 c.in-Accepted-c.is (c.cut_faults-c.ensures (plan_of p) (m.ensures (plan_of p) refl) n.ensures.0)
    (over-attachments p n.result n.ensures.0 c.in-Accepted-d.is (c.attachment_faults-d.ensures (plan_of p) (m.ensures (plan_of p) refl) n.ensures.0.nodes)
    (over-bars p n.result n.ensures.0 c.in-Accepted-e.is (c.bar_faults-e.ensures (plan_of p) n.ensures.0.nodes) (c.status_faults.ensures (plan_of p) n.ensures.0.nodes))))))
