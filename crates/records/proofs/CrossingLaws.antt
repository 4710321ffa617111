-- Laws of crossingRefusal 6: the first undecided crossing, step by step, and that it is the first fault.
use mathlib.Core.Path.{◌≡◌, refl, ap, ◌∙◌}
use mathlib.Core.Bool.{Bool, true, false, ◌&&◌, ◌||◌, not, cond}
use mathlib.Core.List.{List, [], ◌∷◌}
use Prim.Native.Nat.{ℕ, ◌+◌, ◌≤◌, ◌<◌}
use native.Mathlib.Numerals.{add-one}
use native.Mathlib.Omega.{arith}
use lib.ListN.{length, get_or, drop, drop_of_length-le}
use lib.Seq.{drop-cons}
use Rattle.sets.specs.paper.Sets.{all_of}
use Rattle.records.specs.paper.Fields.{fault, fine, first_fault}
use Rattle.records.specs.paper.Plan as paper
use Rattle.records.specs.code.Check.{checked_of}
use Rattle.records.specs.code.Crossings.{is_open, edges_from, cuts_from, first_crossing, crossing_faults}
use Rattle.records.specs.declared.checked.Checked.{Checked}
use Rattle.records.specs.declared.checked.Checked.TheVariants.{Accepted, Refused}
use Rattle.records.specs.declared.plan.checks.crossing.Crossing.{Crossing}
use Rattle.records.specs.declared.plan.checks.crossing.Crossing.TheVariants.{At, Nowhere}

module _ (P : paper.Plan) where
  -- ---- one edge, and none left; one cut, and none left

  pub edge_step : (c : paper.Cut) (cut k : ℕ) (d : paper.Edge) (later : Crossing) → k < length P.edges
      → edges_from P c cut k (drop k P.edges) later ≡ cond (is_open P c k (get_or P.edges k d)) (At cut k) (edges_from P c cut (k + 1) (drop (k + 1) P.edges) later)
  unfolding edges_from
  edge_step c cut k d later h = rw (drop-cons P.edges k d h, add-one k)

  pub edge_end : (c : paper.Cut) (cut k : ℕ) (later : Crossing) → length P.edges ≤ k → edges_from P c cut k (drop k P.edges) later ≡ later
  unfolding edges_from
  edge_end c cut k later h = rw (drop_of_length-le P.edges h)

  pub cut_step : (k : ℕ) (d : paper.Cut) → k < length P.cuts
      → cuts_from P k (drop k P.cuts) ≡ edges_from P (get_or P.cuts k d) k 0 P.edges (cuts_from P (k + 1) (drop (k + 1) P.cuts))
  unfolding cuts_from
  cut_step k d h = rw (drop-cons P.cuts k d h, add-one k)

  pub cut_end : (k : ℕ) → length P.cuts ≤ k → cuts_from P k (drop k P.cuts) ≡ Nowhere
  unfolding cuts_from
  cut_end k h = rw (drop_of_length-le P.cuts h)

  -- ---- the first crossing is the first fault

  -- the refusal of a crossing, where the first cut is record `at`
  abbrev pub crossing_refusal : ℕ → Crossing → Checked
  crossing_refusal at (At cut edge) = Refused 6 (at + cut)
  crossing_refusal at Nowhere = Accepted

  abbrev decided : paper.Cut → ℕ → List paper.Edge → Bool
  decided c k es = all_of (λ ok. ok) (paper.each_from (λ e edge. not (paper.crosses P c edge) || paper.decided_in c.decisions e) k es)

  open_not : (c : paper.Cut) (k : ℕ) (e : paper.Edge) → (not (paper.crosses P c e) || paper.decided_in c.decisions k) ≡ not (is_open P c k e)
  unfolding is_open
  open_not c k e = go (paper.crosses P c e) (paper.decided_in c.decisions k)
    where
      go : (p q : Bool) → (not p || q) ≡ not (p && not q)
      go true true = refl
      go true false = refl
      go false q = refl

  of_edges : (at : ℕ) (c : paper.Cut) (cut k : ℕ) (es : List paper.Edge) (later : Crossing) → crossing_refusal at (edges_from P c cut k es later) ≡ cond (decided c k es) (crossing_refusal at later) (Refused 6 (at + cut))
  unfolding edges_from all_of paper.each_from
  of_edges at c cut k [] later = refl
  of_edges at c cut k (e ∷ es) later = rw (open_not c k e) (go (is_open P c k e) (of_edges at c cut (k + 1) es later))
    where
      go : (b : Bool) → crossing_refusal at (edges_from P c cut (k + 1) es later) ≡ cond (decided c (k + 1) es) (crossing_refusal at later) (Refused 6 (at + cut))
          → crossing_refusal at (cond b (At cut k) (edges_from P c cut (k + 1) es later)) ≡ cond (not b && decided c (k + 1) es) (crossing_refusal at later) (Refused 6 (at + cut))
      go true e = refl
      go false e = e

  of_cuts : (at k : ℕ) (cs : List paper.Cut) → crossing_refusal at (cuts_from P k cs) ≡ checked_of (first_fault (at + k) (paper.faults 6 (paper.crossings_decided P) cs) (fine P))
  unfolding cuts_from checked_of first_fault paper.crossings_decided
  of_cuts at k [] = refl
  of_cuts at k (c ∷ cs) = of_edges at c k 0 P.edges (cuts_from P (k + 1) cs) ∙ go (decided c 0 P.edges) (of_cuts at (k + 1) cs)
    where
      go : (b : Bool) → crossing_refusal at (cuts_from P (k + 1) cs) ≡ checked_of (first_fault (at + (k + 1)) (paper.faults 6 (paper.crossings_decided P) cs) (fine P))
          → cond b (crossing_refusal at (cuts_from P (k + 1) cs)) (Refused 6 (at + k)) ≡ checked_of (first_fault (at + k) (fault 6 b ∷ paper.faults 6 (paper.crossings_decided P) cs) (fine P))
      go true e = e ∙ ap (λ (i : ℕ). checked_of (first_fault i (paper.faults 6 (paper.crossings_decided P) cs) (fine P))) (omega arith)
      go false e = refl

  pub crossing-fault : (at : ℕ) → crossing_refusal at (first_crossing P) ≡ checked_of (first_fault at (crossing_faults P) (fine P))
  unfolding first_crossing
  crossing-fault at = of_cuts at 0 P.cuts ∙ ap (λ (i : ℕ). checked_of (first_fault i (crossing_faults P) (fine P))) (omega arith)

  -- ---- a crossing's cut is one of the plan's

  abbrev pub cut_of : Crossing → ℕ
  cut_of (At cut edge) = cut
  cut_of Nowhere = 0

  either : (m : ℕ) (b : Bool) (x y : Crossing) → cut_of x ≤ m → cut_of y ≤ m → cut_of (cond b x y) ≤ m
  either m true x y hx hy = hx
  either m false x y hx hy = hy

  edges-within : (m : ℕ) (c : paper.Cut) (cut k : ℕ) (es : List paper.Edge) (later : Crossing) → cut ≤ m → cut_of later ≤ m → cut_of (edges_from P c cut k es later) ≤ m
  unfolding edges_from
  edges-within m c cut k [] later h l = l
  edges-within m c cut k (e ∷ es) later h l = either m (is_open P c k e) (At cut k) _ h (edges-within m c cut (k + 1) es later h l)

  cuts-within : (m k : ℕ) (cs : List paper.Cut) → k + length cs ≤ m → cut_of (cuts_from P k cs) ≤ m
  unfolding cuts_from
  cuts-within m k [] h = omega arith
  cuts-within m k (c ∷ cs) h = edges-within m c k 0 P.edges (cuts_from P (k + 1) cs) (omega arith) (cuts-within m (k + 1) cs (omega arith))

  pub crossing-within : cut_of (first_crossing P) ≤ length P.cuts
  unfolding first_crossing
  crossing-within = cuts-within (length P.cuts) 0 P.cuts (omega arith)
