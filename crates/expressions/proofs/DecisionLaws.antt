-- Laws of the unresolved decisions: searched by number, listed one by one, and how many there are.
use Prim.Native.Nat.{ℕ, ◌+◌, ◌≤◌, ◌<◌, min}
use mathlib.Core.Path.{◌≡◌, refl, sym, ap, ap₂, ◌∙◌, subst}
use mathlib.Core.Bool.{Bool, false, ◌&&◌, ◌||◌, or-false, and-false}
use mathlib.Core.List.{List, [], ◌∷◌, ◌++◌}
use mathlib.Core.Logic.{⊎_elim}
use native.Mathlib.Decide.{le_ind}
use native.Mathlib.Numerals.{add-one}
use native.Mathlib.Omega.{arith}
use lib.ListN.{length, get_or, get_or-eq_default, set}
use lib.Seq.{get_or-set_same, get_or-set_other}
use lib.Dec.{eqb}
use borrow.Author.Tests.{ne_eqb}
use Rattle.sets.specs.paper.Sets.{union, below, any_of, All}
use Rattle.records.specs.paper.Plan as paper
use Rattle.records.specs.paper.Plan.{Plan}
use Rattle.records.specs.code.Decoded.{decisions_of, cut_of, edge_of, cuts_of, edges_of}
use Rattle.expressions.specs.paper.Rules.{no_cut, no_edge, cut, edge, pair, ends_of}
use Rattle.records.specs.declared.plan.Decisions.{Decisions}
use Rattle.records.specs.declared.plan.Cut.{Cut}
use Rattle.records.specs.declared.plan.Edge.{Edge}
use Rattle.records.specs.declared.plan.Cuts.{Cuts}
use Rattle.records.specs.declared.plan.Edges.{Edges}
use Rattle.sets.proofs.SetLaws.{lt_or_le}
use Rattle.sets.proofs.LoopLaws.{all_at, get_or-below, length-below}
use Rattle.expressions.specs.code.Listed.{held_by_cut}
use Rattle.expressions.specs.declared.decisions.Undecided.{Undecided}
use Rattle.expressions.specs.paper.Influence.{Open, has_verdict, open_touch}
use Rattle.expressions.specs.code.Undecided.{pair_of, open_at, opens_of, Named}
use Rattle.records.proofs.Listing.{below_more, below_ext}
use Rattle.expressions.proofs.ListLaws.{any_last, made-length, made_at}

-- ---- any of f 0 … f (n − 1)

pub any_more : {A : Type 0} (g : A → Bool) (f : ℕ → A) (i : ℕ) → any_of g (below (i + 1) f) ≡ (any_of g (below i f) || g (f i))
any_more g f i = ap (any_of g) (below_more i f) ∙ any_last g (below i f) (f i)

-- what fails from m on is not found there
pub any_past : {A : Type 0} (g : A → Bool) (f : ℕ → A) (m n : ℕ) → m ≤ n → ((k : ℕ) → m ≤ k → g (f k) ≡ false) → any_of g (below n f) ≡ any_of g (below m f)
any_past g f m n l h =
    le_ind (λ (j : ℕ). any_of g (below j f) ≡ any_of g (below m f)) refl (λ k p e.
    ap (λ (j : ℕ). any_of g (below j f)) (sym (add-one k)) ∙ any_more g f k ∙ ap₂ ◌||◌ e (h k p) ∙ or-false (any_of g (below m f))) n l

pub other_verdict : (a e b v : ℕ) → (b ≡ v → ⊥) → (eqb a e && eqb b v) ≡ false
other_verdict a e b v n = ap (λ (x : Bool). eqb a e && x) (ne_eqb b v n) ∙ and-false (eqb a e)

-- ---- a verdict among the decisions in use: past the arrays there is none

abbrev pub decision_at : Decisions → ℕ → paper.Decision
decision_at d i = record { edge = get_or d.edges i 0; verdict = get_or d.verdicts i 0 }

pub in_use : (d : Decisions) (e v i : ℕ) → length d.verdicts ≡ 64 → 0 < v → i ≡ min d.count 64 → has_verdict e v (below i (decision_at d)) ≡ has_verdict e v (decisions_of d)
unfolding decisions_of
in_use d e v i long some k =
    ⊎_elim (λ l. let all : i ≡ d.count = omega arith in ap (λ (n : ℕ). has_verdict e v (below n (decision_at d))) all)
    (λ l. sym (any_past _ (decision_at d) i d.count (omega arith) (λ j p.
    let past = get_or-eq_default d.verdicts 0 {n = j} (omega arith) in
    other_verdict (get_or d.edges j 0) e (get_or d.verdicts j 0) v (λ q. omega arith))))
    (lt_or_le d.count 64)

-- ---- the list of open decisions, one more at the end

pub open_next : (cuts edges : List ℕ) (i c e : ℕ) → i < length cuts → i < length edges →
    below (i + 1) (open_at (set cuts i c) (set edges i e)) ≡ below i (open_at cuts edges) ++ (pair_of c e ∷ [])
open_next cuts edges i c e h k =
    below_more i (open_at (set cuts i c) (set edges i e))
    ∙ ap₂ (λ (l : List Open) (x : Open). l ++ (x ∷ []))
    (below_ext i (open_at (set cuts i c) (set edges i e)) (open_at cuts edges) (λ j l.
    ap₂ pair_of (get_or-set_other cuts i j c 0 (λ q. absurd (omega arith))) (get_or-set_other edges i j e 0 (λ q. absurd (omega arith)))))
    (ap₂ pair_of (get_or-set_same cuts i c 0 h) (get_or-set_same edges i e 0 k))

-- ---- whom the decision of a number touches

module _ (cuts : Cuts) (edges : Edges) (o : Undecided) (i : ℕ) (h : i < o.count) (all : All (Named (length (cuts_of cuts)) (length (edges_of edges))) (opens_of o)) where
  named_at : Named (length (cuts_of cuts)) (length (edges_of edges)) (open_at o.cuts o.edges i)
  unfolding opens_of
  named_at =
      let q = Named (length (cuts_of cuts)) (length (edges_of edges)) in
      subst q (get_or-below o.count (open_at o.cuts o.edges) (pair_of 0 0) i h)
      (all_at q (opens_of o) (pair_of 0 0) i all (subst (λ (n : ℕ). i < n) (sym (length-below o.count (open_at o.cuts o.edges))) h))

  pub cut_in : length cuts.items ≡ 16 → get_or o.cuts i 0 < min cuts.count 16
  cut_in long = omega (arith, named_at.0, made-length cut_of cuts.items cuts.count 16 (min cuts.count 16) long refl)

  pub edge_in : length edges.items ≡ 64 → get_or o.edges i 0 < min edges.count 64
  edge_in wide = omega (arith, named_at.1, made-length edge_of edges.items edges.count 64 (min edges.count 64) wide refl)

  pub touch_at : length cuts.items ≡ 16 → length edges.items ≡ 64 → (d : Cut) (e : Edge) (P : Plan) → P.cuts ≡ cuts_of cuts → P.edges ≡ edges_of edges
      → union (get_or cuts.items (get_or o.cuts i 0) d).members (ends_of (edge_of (get_or edges.items (get_or o.edges i 0) e))) ≡ open_touch P (open_at o.cuts o.edges i)
  unfolding cut_of cut pair edge
  touch_at long wide d e P k l =
      ap₂ union
      (ap held_by_cut (sym (ap (λ (xs : List paper.Cut). get_or xs (get_or o.cuts i 0) no_cut) k ∙ made_at cut_of cuts.items cuts.count 16 (min cuts.count 16) long refl (get_or o.cuts i 0) d _ (cut_in long))))
      (ap ends_of (sym (ap (λ (xs : List paper.Edge). get_or xs (get_or o.edges i 0) no_edge) l ∙ made_at edge_of edges.items edges.count 64 (min edges.count 64) wide refl (get_or o.edges i 0) e _ (edge_in wide))))
