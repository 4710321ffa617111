-- The first undecided crossing. Document 01: "6 a cut and a Combination edge crossing without a decision, where the check stops at the first
-- such cut, then edge".
use Rattle.std.specs.Prelude.{◌≡◌, Bool, ◌&&◌, not, cond, List, [], ◌∷◌, ℕ, ◌+◌}
use Rattle.records.specs.paper.Plan.{Plan, Cut, Edge, faults, decided_in, crosses, crossings_decided}
use Rattle.records.specs.code.Decoded.{cut_of, edge_of}
use Rattle.records.specs.declared.plan.Cut as cut
use Rattle.records.specs.declared.plan.Edge as edge
use Rattle.records.specs.declared.plan.Decisions as decisions
use Rattle.records.specs.declared.plan.checks.crossing.Crossing.{Crossing}
use Rattle.records.specs.declared.plan.checks.crossing.Crossing.TheVariants.{At, Nowhere}

module _ (P : Plan) where
  -- the edge of this number crosses the cut without a decision
  unfoldable pub is_open : Cut → ℕ → Edge → Bool
  is_open c k e = crosses P c e && not (decided_in c.decisions k)

  -- the first such edge of a cut, from edge k on; else what the later cuts have
  unfoldable pub edges_from : Cut → ℕ → ℕ → List Edge → Crossing → Crossing
  edges_from c cut k [] later = later
  edges_from c cut k (e ∷ es) later = cond (is_open c k e) (At cut k) (edges_from c cut (k + 1) es later)

  -- of the cuts from number k on
  unfoldable pub cuts_from : ℕ → List Cut → Crossing
  cuts_from k [] = Nowhere
  cuts_from k (c ∷ cs) = edges_from c k 0 P.edges (cuts_from (k + 1) cs)

  unfoldable pub first_crossing : Crossing
  first_crossing = cuts_from 0 P.cuts

  abbrev pub crossing_faults : List ℕ
  crossing_faults = faults 6 (crossings_decided P) P.cuts

-- what the test of one cut, by its members and decisions, and one edge says, in every plan
abbrev pub IsOpen : ℕ → decisions.Decisions → ℕ → edge.Edge → Bool → Type 0
IsOpen m ds k e r = (P : Plan) (c : cut.Cut) → c.members ≡ m → c.decisions ≡ ds → r ≡ is_open P (cut_of c) k (edge_of e)
