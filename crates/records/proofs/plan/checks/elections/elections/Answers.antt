use mathlib.Core.Path.{◌≡◌, refl, sym, ap, ◌∙◌, subst}
use mathlib.Core.Bool.{Bool, cond}
use mathlib.Core.List.{List, []}
use Prim.Native.Nat.{ℕ, ◌+◌}
use native.Mathlib.Omega.{arith}
use lib.ListN.{get_or, set, length-set, replicate}
use borrow.Author.Tests.{not-true, not-false}
use Rattle.records.specs.paper.Fields.{fault, fine, first_fault}
use Rattle.records.specs.paper.Plan as paper
use Rattle.records.specs.paper.Plan.{cuts_at, election_records}
use Rattle.records.specs.code.Decoded.{plan_of, election_of, no_election}
use Rattle.records.specs.code.Check.{checked_of}
use Rattle.records.specs.code.Elections.{agree, earlier, agreement}
use Rattle.records.proofs.ListLaws.{fault_goes, fault_stops, fault-ends}
use Rattle.records.proofs.FaultLaws.{none_yet}
use Rattle.records.proofs.ElectionLaws.{length-agreement, election-fault, Elects, cut-election, attachment-election, Kept, kept-none, kept_more}
use Rattle.records.specs.declared.plan.Election.{Election}
use Rattle.records.proofs.plan.checks.elections.elections.Goals as goal
use Rattle.records.proofs.plan.checks.elections.elections.Goals.{then-k-cut_count, else-k-cut_count}

-- the one kept at a number that is the election's fact
at_fact : (kept : List Election) (e : Election) {f : ℕ} → f ≡ e.fact
    → agree (election_of e) (election_of (get_or kept e.fact no_election)) ≡ agree (election_of e) (election_of (get_or kept f no_election))
at_fact kept e q = ap (λ (i : ℕ). agree (election_of e) (election_of (get_or kept i no_election))) (sym q)

-- beside all earlier ones it is what it is beside the one kept
beside : (ess : List (List paper.Election)) (k : ℕ) (kept : List Election) (e : Election) → Kept ess k kept → election_of e ≡ get_or ess k [] → {f : ℕ} → f ≡ e.fact
    → {r : Bool} → r ≡ agree (election_of e) (election_of (get_or kept f no_election)) → agree (get_or ess k []) (earlier ess k) ≡ r
beside ess k kept e g h q s = ap (λ z. agree z (earlier ess k)) (sym h) ∙ g e ∙ at_fact kept e q ∙ sym s

pub overflow_add-first : goal.overflow_add-first
overflow_add-first c = omega (arith, c.count_records-counts.ensures.1)

pub overflow_add-first-2 : goal.overflow_add-first-2
overflow_add-first-2 c = omega (arith, c.count_records-counts.ensures.1)

pub overflow_add-first-3 : goal.overflow_add-first-3
overflow_add-first-3 c = omega (arith, c.count_records-counts.ensures.1)

pub overflow_add-total : goal.overflow_add-total
overflow_add-total c = omega (arith, c.count_records-counts.ensures.1)

pub loop-k-init : goal.loop-k-init
loop-k-init c = (omega arith, refl, λ P b m n. (none_yet _ (agreement P) P, subst (λ z. Kept (election_records P) 0 (replicate 256 z)) (sym c.no_election-kept.ensures) (kept-none (election_records P) 256)))

pub offset_bounds-cuts-k : goal.offset_bounds-cuts-k
offset_bounds-cuts-k c = omega (arith, c.count_records-counts.ensures.1)

pub bounds-cuts-k : goal.bounds-cuts-k
bounds-cuts-k c = omega (arith, c.count_records-counts.ensures.1)

pub offset_bounds-attachments-k : goal.offset_bounds-attachments-k
offset_bounds-attachments-k c = omega (arith, c.count_records-counts.ensures.1)

pub bounds-attachments-k : goal.bounds-attachments-k
bounds-attachments-k c = omega (arith, c.count_records-counts.ensures.1)

pub offset_bounds-kept-fact : goal.offset_bounds-kept-fact
offset_bounds-kept-fact c = omega (arith, c.fact_place-fact.ensures.1)

pub bounds-kept-fact : goal.bounds-kept-fact
bounds-kept-fact c = c.fact_place-fact.ensures.1

pub overflow_add-result : goal.overflow_add-result
overflow_add-result c = omega (arith, c.count_records-counts.ensures.1)

pub returns-then-not-same : goal.returns-then-not-same
unfolding checked_of plan_of
returns-then-not-same c =
    let p = c.args.plan in let n = c.count_records-counts in let l = c.loop-k in let j = c.if-k-cut_count in
    let P = plan_of p in let fs = agreement P in let ess = election_records P in
    let b : Elects p.cuts p.attachments P = record { cuts_are = refl; attachments_are = refl } in
    let inv = l.invariant.2 P b n.ensures.0.cuts (omega (arith, n.ensures.0)) in
    let h : election_of j.election ≡ get_or ess l.k [] =
    (elim j.branch [
      | then-k-cut_count w ↦ ap election_of w.election-is ∙ cut-election p.cuts p.attachments P b l.k _ (omega (arith, w.if-k-cut_count.true, n.ensures.0.cuts))
      | else-k-cut_count w ↦ ap election_of w.election-is ∙ attachment-election p.cuts p.attachments P b l.k n.result.cuts _ n.ensures.0.cuts (omega (arith, w.if-k-cut_count.false)) (omega (arith, w.if-k-cut_count.false, n.ensures.0))
    ]) in
    let v = beside ess l.k l.kept j.election inv.1 h c.fact_place-fact.ensures.0 c.same.ensures in
    let t : 7 ≡ get_or fs l.k 0 = ap (λ (x : Bool). fault 7 x) (sym (v ∙ not-true c.same.result c.if-not-same.true-raw)) ∙ election-fault P l.k in
    let first = n.result.headings + n.result.facts + n.result.nodes + n.result.edges in
    let at : first ≡ cuts_at P = omega (arith, n.ensures.0) in
    ap checked_of (fault_stops first fs l.k 6 (fine P) (first_fault first fs (fine P)) (omega (arith, length-agreement P, n.ensures.0)) t inv.0) ∙ ap (λ (i : ℕ). checked_of (first_fault i fs (fine P))) at

pub offset_bounds-kept-fact-in-loop-k : goal.offset_bounds-kept-fact-in-loop-k
offset_bounds-kept-fact-in-loop-k c = omega (arith, c.fact_place-fact.ensures.1)

pub bounds-kept-fact-in-loop-k : goal.bounds-kept-fact-in-loop-k
bounds-kept-fact-in-loop-k c = c.fact_place-fact.ensures.1

pub loop-k-preserved : goal.loop-k-preserved
loop-k-preserved c =
    let n = c.count_records-counts in let l = c.loop-k in let j = c.if-k-cut_count in let w = c.fact_place-fact in let p = c.args.plan in
    let first = n.result.headings + n.result.facts + n.result.nodes + n.result.edges in (
      omega arith,
      length-set l.kept w.result c.latest.result ∙ l.invariant.1,
      λ P b m total.
          let ess = election_records P in
          let inv = l.invariant.2 P b m total in
          let h : election_of j.election ≡ get_or ess l.k [] =
          (elim j.branch [
            | then-k-cut_count u ↦ ap election_of u.election-is ∙ cut-election p.cuts p.attachments P b l.k _ (omega (arith, u.if-k-cut_count.true, m))
            | else-k-cut_count u ↦ ap election_of u.election-is ∙ attachment-election p.cuts p.attachments P b l.k n.result.cuts _ m (omega (arith, u.if-k-cut_count.false)) (omega (arith, u.if-k-cut_count.false, m, total))
          ]) in
          let s = not-false c.same.result c.if-not-same.false-raw in
          let v = beside ess l.k l.kept j.election inv.1 h w.ensures.0 c.same.ensures in
          let t : 0 ≡ get_or (agreement P) l.k 0 = ap (λ (x : Bool). fault 7 x) (sym (v ∙ s)) ∙ election-fault P l.k in (
            fault_goes first (agreement P) l.k (fine P) (first_fault first (agreement P) (fine P)) (omega (arith, length-agreement P, total)) t inv.0,
            subst (λ z. Kept ess (l.k + 1) z)
                (ap (λ (i : ℕ). set l.kept i (cond j.election.given j.election (get_or l.kept i no_election))) (sym w.ensures.0) ∙ ap (set l.kept w.result) (sym c.latest.ensures))
                (kept_more ess l.k l.kept j.election (omega (arith, w.ensures.1, l.invariant.1)) h (at_fact l.kept j.election w.ensures.0 ∙ sym c.same.ensures ∙ s) inv.1),
          ),
    )

pub returns : goal.returns
unfolding checked_of plan_of
returns c =
    let p = c.args.plan in let n = c.count_records-counts in let l = c.loop-k in let P = plan_of p in let fs = agreement P in
    let inv = l.invariant.2 P (record { cuts_are = refl; attachments_are = refl }) n.ensures.0.cuts (omega (arith, n.ensures.0)) in
    let first = n.result.headings + n.result.facts + n.result.nodes + n.result.edges in
    let at : first ≡ cuts_at P = omega (arith, n.ensures.0) in
    ap checked_of (fault-ends first fs l.k (fine P) (first_fault first fs (fine P)) (omega (arith, length-agreement P, n.ensures.0)) inv.0) ∙ ap (λ (i : ℕ). checked_of (first_fault i fs (fine P))) at
