-- The nested search: each invariant says that what is left of it gives the first crossing.
use mathlib.Core.Path.{◌≡◌}
use mathlib.Core.Bool.{false}
use mathlib.Core.List.{[], map}
use Prim.Native.Nat.{ℕ, ◌≤◌, ◌-◌, ◌+◌}
use lib.ListN.{get_or, take, drop}
use Rattle.records.specs.paper.Plan as paper
use Rattle.records.specs.code.Decoded.{cut_of, edge_of}
use Rattle.records.specs.code.Crossings.{edges_from, cuts_from, first_crossing}
use Rattle.records.specs.declared.plan.Cut.{Cut}
use Rattle.records.specs.declared.plan.Cuts.{Cuts}
use Rattle.records.specs.declared.plan.Edges.{Edges}
use Rattle.records.proofs.plan.checks.crossing.first_crossing.Given as goal

-- a plan that has these cuts and edges
pub record Beside (cuts : Cuts) (edges : Edges) (P : paper.Plan) : Type 0 where
  pub cuts_are : map cut_of (take cuts.count cuts.items) ≡ P.cuts
  pub edges_are : map edge_of (take edges.count edges.items) ≡ P.edges

abbrev pub no_cut : Cut
no_cut = record {
  members = 0;
  condition = 0;
  citation = 0;
  election = record { given = false; fact = 0; actor = 0; policy = 0; citation = 0 };
  decisions = record { count = 0; edges = []; verdicts = [] };
  precedes = record { count = 0; items = [] };
}

abbrev pub cut_at : paper.Plan → ℕ → paper.Cut
cut_at P k = get_or P.cuts k (cut_of no_cut)

abbrev pub invariant-loop-edge : goal.invariant-loop-edge
invariant-loop-edge l =
    (l.edge ≤ l.edge_count) × (l.hit ≡ false) × ((P : paper.Plan) → Beside l.cuts l.edges P
    → edges_from P (cut_at P l.cut) l.cut l.edge (drop l.edge P.edges) (cuts_from P (l.cut + 1) (drop (l.cut + 1) P.cuts)) ≡ first_crossing P)

abbrev pub decreases-loop-edge : goal.decreases-loop-edge
decreases-loop-edge l = l.edge_count - l.edge

abbrev pub invariant-search : goal.invariant-search
invariant-search l =
    (l.cut ≤ l.cut_count) × (l.hit ≡ false) × ((P : paper.Plan) → Beside l.cuts l.edges P → cuts_from P l.cut (drop l.cut P.cuts) ≡ first_crossing P)

abbrev pub decreases-search : goal.decreases-search
decreases-search l = l.cut_count - l.cut
