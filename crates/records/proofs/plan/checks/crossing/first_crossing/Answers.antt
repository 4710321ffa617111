use mathlib.Core.Path.{◌≡◌, refl, sym, ap, ap₂, ◌∙◌}
use mathlib.Core.Bool.{false}
use mathlib.Core.List.{[]}
use Prim.Native.Nat.{ℕ, ◌<◌, ◌+◌}
use native.Mathlib.Omega.{arith}
use lib.ListN.{length, get_or, drop}
use Rattle.records.specs.paper.Plan as paper
use Rattle.records.specs.code.Decoded.{plan_of, cut_of, edge_of}
use Rattle.records.specs.code.Crossings.{is_open, cuts_from, first_crossing}
use Rattle.records.specs.declared.plan.Cuts.{Cuts}
use Rattle.records.specs.declared.plan.Edge.{Edge}
use Rattle.records.specs.declared.plan.Edges.{Edges}
use Rattle.records.proofs.ListLaws.{get_d_front}
use Rattle.records.proofs.CrossingLaws.{edge_step, edge_end, cut_step, cut_end}
use Rattle.records.proofs.plan.checks.crossing.first_crossing.Invariants.{Beside, no_cut, cut_at}
use Rattle.records.proofs.plan.checks.crossing.first_crossing.Goals as goal
use Rattle.records.proofs.plan.checks.crossing.first_crossing.Goals.{else-search-test, then-search-test+then-loop-edge-test+then-undecided}

abbrev no_edge : Edge
no_edge = record { left = 0; right = 0; condition = 0; citation = 0; defeaters = record { count = 0; items = [] }; combination = false }

at_pair : {cuts : Cuts} {edges : Edges} (P : paper.Plan) → Beside cuts edges P → (c e : ℕ) → c < length P.cuts → e < length P.edges
    → is_open P (cut_of (get_or cuts.items c no_cut)) e (edge_of (get_or edges.items e no_edge)) ≡ is_open P (cut_at P c) e (get_or P.edges e (edge_of no_edge))
at_pair {cuts} {edges} P b c e hc he =
    ap₂ (λ x y. is_open P x e y)
    (sym (get_d_front cut_of cuts.items cuts.count c no_cut (cut_of no_cut) (rw b.cuts_are hc)) ∙ ap (λ l. get_or l c (cut_of no_cut)) b.cuts_are)
    (sym (get_d_front edge_of edges.items edges.count e no_edge (edge_of no_edge) (rw b.edges_are he)) ∙ ap (λ l. get_or l e (edge_of no_edge)) b.edges_are)

pub search-init : goal.search-init
unfolding first_crossing
search-init c = (omega arith, refl, λ P b. refl)

pub offset_bounds-cuts-cut : goal.offset_bounds-cuts-cut
offset_bounds-cuts-cut c = omega (arith, c.count_records-counts.ensures.1.cuts)

pub bounds-cuts-cut : goal.bounds-cuts-cut
bounds-cuts-cut c = omega (arith, c.count_records-counts.ensures.1.cuts)

pub loop-edge-init : goal.loop-edge-init
unfolding plan_of
loop-edge-init c =
    let n = c.count_records-counts.ensures.0 in let o = c.search in
    (omega arith, o.invariant.1, λ P b. sym (cut_step P o.cut (cut_of no_cut) (omega (arith, n.cuts, ap length b.cuts_are))) ∙ o.invariant.2 P b)

pub offset_bounds-edges-edge : goal.offset_bounds-edges-edge
offset_bounds-edges-edge c = omega (arith, c.count_records-counts.ensures.1.edges)

pub bounds-edges-edge : goal.bounds-edges-edge
bounds-edges-edge c = omega (arith, c.count_records-counts.ensures.1.edges)

pub overflow_add-edge : goal.overflow_add-edge
overflow_add-edge c = omega (arith, c.count_records-counts.ensures.1.edges)

pub loop-edge-smaller : goal.loop-edge-smaller
loop-edge-smaller c = omega arith

pub loop-edge-preserved : goal.loop-edge-preserved
unfolding plan_of
loop-edge-preserved c =
    let n = c.count_records-counts.ensures.0 in let l = c.loop-edge in let o = c.search in let s = c.args.plan in (
      omega arith,
      l.invariant.1,
      λ P b.
          let in-edges : l.edge < length P.edges = omega (arith, n.edges, ap length b.edges_are) in
          let t = edge_step P (cut_at P o.cut) o.cut l.edge (edge_of no_edge) (cuts_from P (o.cut + 1) (drop (o.cut + 1) P.cuts)) in-edges in
          let u = sym (at_pair P b o.cut l.edge (omega (arith, n.cuts, ap length b.cuts_are)) in-edges) ∙ sym (c.undecided.ensures P (get_or s.cuts.items o.cut no_cut) refl refl) ∙ c.if-undecided.false in
          (rw u at (sym t)) ∙ l.invariant.2 P b,
    )

pub overflow_add-cut : goal.overflow_add-cut
overflow_add-cut c = omega (arith, c.count_records-counts.ensures.1.cuts)

pub search-smaller : goal.search-smaller
search-smaller c = omega arith

pub search-preserved : goal.search-preserved
unfolding plan_of
search-preserved c =
    let n = c.count_records-counts.ensures.0 in let l = c.loop-edge in let o = c.search in (
      omega arith,
      l.invariant.1,
      λ P b.
          sym (edge_end P (cut_at P o.cut) o.cut l.edge (cuts_from P (o.cut + 1) (drop (o.cut + 1) P.cuts)) (omega (arith, n.edges, ap length b.edges_are))) ∙ l.invariant.2 P b,
    )

pub returns-then-hit : goal.returns-then-hit
unfolding plan_of
returns-then-hit c =
    let n = c.count_records-counts.ensures.0 in let o = c.search in let p = plan_of c.args.plan in
    (elim c.search-test.branch [
      | else-search-test w ↦ let i = o.invariant.1 in let h = w.hit-is in let t = c.if-hit.true in cc
      | then-search-test+then-loop-edge-test+then-undecided w ↦ let l = w.loop-edge in
          let b : Beside c.args.plan.cuts c.args.plan.edges p = record { cuts_are = refl; edges_are = refl } in
          let in-edges : l.edge < length p.edges = omega (arith, n.edges, w.loop-edge-test.true) in
          let t = edge_step p (cut_at p o.cut) o.cut l.edge (edge_of no_edge) (cuts_from p (o.cut + 1) (drop (o.cut + 1) p.cuts)) in-edges in
          let u = sym (at_pair p b o.cut l.edge (omega (arith, n.cuts, w.search-test.true)) in-edges) ∙ sym (w.undecided.ensures p (get_or c.args.plan.cuts.items o.cut no_cut) refl refl) ∙ w.if-undecided.true in
          rw w.edge-is ((rw u at (sym t)) ∙ l.invariant.2 p b)
    ])

pub returns-else-hit : goal.returns-else-hit
unfolding plan_of
returns-else-hit c =
    let n = c.count_records-counts.ensures.0 in let o = c.search in let p = plan_of c.args.plan in
    (elim c.search-test.branch [ else-search-test w ↦ sym (cut_end p o.cut (omega (arith, n.cuts, w.search-test.false))) ∙ o.invariant.2 p (record { cuts_are = refl; edges_are = refl }) | then-search-test+then-loop-edge-test+then-undecided w ↦ let h = w.hit-is in let t = c.if-hit.false in cc ])
