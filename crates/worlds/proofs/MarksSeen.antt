-- The marks of two worlds that say the same of the rules in a circle agree in it: steps 2 and 4.
use mathlib.Core.Path.{◌≡◌, refl, sym, ap, ap₂, ◌∙◌}
use mathlib.Core.Bool.{Bool, true, false, ◌&&◌, not}
use mathlib.Core.List.{List, [], ◌∷◌, ◌++◌}
use mathlib.Core.Logic.{◌⊎◌, inl, inr}
use Prim.Native.Nat.{ℕ}
use lib.Dec.{ltb}
use Rattle.sets.specs.paper.Sets.{has, one, union, subset, only, size, union_of, close_of, All}
use Rattle.records.specs.paper.Plan.{Plan}
use Rattle.sets.proofs.MemberLaws.{members-same}
use Rattle.sets.proofs.Local.{which, Inside, Outside, outer, Agree, Twin, near, far, Twins, Weak, weak, weak_only, in_only, in_single, out-only, out-not, agree_refl, agree_twin, agree_same, twin_only, twin_near, twins-below, twins-self, below_all, union-agree, union_of-agree, close_in, close_out, close_agree}
use Rattle.expressions.specs.paper.Rules.{edge_count, cut_count, edge, rule_sets, chained}
use Rattle.expressions.specs.paper.Nodes.{on}
use Rattle.expressions.specs.paper.Variables.{Influence}
use Rattle.expressions.proofs.Circles.{Uncrossed, edge_side, cut_side}
use Rattle.worlds.specs.paper.Active.{Active}
use Rattle.worlds.specs.paper.World.{base_set, base_sets, clique, loose, loose_component, loose_components, spread, Marks, discretion_seed, overlap_seed, marks_of}
use Rattle.worlds.proofs.CutsSeen.{Same, overlapping-same}

-- ---- a component by sets that do not cross the circle's line

module _ (C : ℕ → Bool) (ss : List ℕ) (h : All (Weak C) ss) where
  pub component_in : (p : ℕ) → C p ≡ true → Inside C (close_of ss (one p))
  component_in p e = close_in C ss (one p) h (in_single C p e)

  pub component_out : (p : ℕ) → C p ≡ false → Outside C (close_of ss (one p))
  component_out p e = close_out C ss (one p) h (in_single (outer C) p (ap not e))

pub component_same : (C : ℕ → Bool) (ss ts : List ℕ) → All (Weak C) ss → All (Weak C) ts → Twins C ss ts → (p : ℕ) → C p ≡ true → close_of ss (one p) ≡ close_of ts (one p)
component_same C ss ts h k w p e =
    agree_same C (close_agree C ss ts (one p) (one p) w (agree_refl C (one p))) (component_in C ss h p e) (component_in C ts k p e)

-- ---- cliques

joined_same : (C : ℕ → Bool) (ss ts : List ℕ) → Twins C ss ts → (q : ℕ) → C q ≡ true
    → union_of (λ s. only (has s q) s) ss ≡ union_of (λ s. only (has s q) s) ts
unfolding union_of
joined_same C [] [] w q e = refl
joined_same C [] (t ∷ ts) w q e = absurd w
joined_same C (s ∷ ss) [] w q e = absurd w
joined_same C (s ∷ ss) (t ∷ ts) w q e = ap₂ union (go w.0) (joined_same C ss ts w.1 q e)
  where
    go : {a b : ℕ} → Twin C a b → only (has a q) a ≡ only (has b q) b
    go (near h) = refl
    go {a} {b} (far h k) = ap (λ (x : Bool). only x a) (out-not C q h e) ∙ sym (ap (λ (x : Bool). only x b) (out-not C q k e))

loose_same : (C : ℕ → Bool) (P : Plan) (ss ts : List ℕ) → Twins C ss ts → (m : ℕ) → Inside C m → loose P ss m ≡ loose P ts m
unfolding loose clique
loose_same C P ss ts w m h =
    ap (λ (x : Bool). not (chained P) && (ltb 2 (size m) && not x))
    (members-same m _ _ (λ q x. ap (λ (y : ℕ). subset m (union (one q) y)) (joined_same C ss ts w q (h.at q x))))

-- ---- the seeds, from what the rules say

module _ (C : ℕ → Bool) (P : Plan) (roster : ℕ) (K : Uncrossed C P) (a b : Active) (S : Same C P a b) where
  base-twins : Twins C (base_sets P a) (base_sets P b)
  unfolding base_sets base_set
  base-twins =
      twins-below C (base_set P a) (base_set P b) (edge_count P)
      (λ i l. twin_only C (edge_side C P K i) (λ q h e. ap (λ (x : Bool). x && not (edge P i).combination) (S.frozen i q h e)))

  base_weak : (u : Active) → All (Weak C) (base_sets P u)
  unfolding base_sets base_set
  base_weak u = below_all (Weak C) (edge_count P) (base_set P u) (λ i. weak_only C (on u.frozen i && not (edge P i).combination) (weak C (edge_side C P K i)))

  pub loose_twin : (p : ℕ) → Twin C (loose_component P roster (base_sets P a) p) (loose_component P roster (base_sets P b) p)
  unfolding loose_component
  loose_twin p = go (which (C p))
    where
      ss : List ℕ
      ss = base_sets P a

      ts : List ℕ
      ts = base_sets P b

      go : (C p ≡ true) ⊎ (C p ≡ false)
          → Twin C (only (has roster p && loose P ss (close_of ss (one p))) (close_of ss (one p))) (only (has roster p && loose P ts (close_of ts (one p))) (close_of ts (one p)))
      go (inl e) =
          twin_near C (in_only C (has roster p && loose P ss (close_of ss (one p))) (component_in C ss (base_weak a) p e))
          (ap (λ (x : Bool). only (has roster p && x) (close_of ss (one p))) (loose_same C P ss ts base-twins (close_of ss (one p)) (component_in C ss (base_weak a) p e))
          ∙ ap (λ (m : ℕ). only (has roster p && loose P ts m) m) (component_same C ss ts (base_weak a) (base_weak b) base-twins p e))
      go (inr e) =
          far (out-only C (has roster p && loose P ss (close_of ss (one p))) (component_out C ss (base_weak a) p e))
          (out-only C (has roster p && loose P ts (close_of ts (one p))) (component_out C ts (base_weak b) p e))

  pub discretion-agree : Agree C (discretion_seed P roster a) (discretion_seed P roster b)
  unfolding discretion_seed loose_components
  discretion-agree = union_of-agree C _ _ (twins-below C _ _ 64 (λ p l. loose_twin p))

  pub overlap-agree : Agree C (overlap_seed P a) (overlap_seed P b)
  unfolding overlap_seed
  overlap-agree = union-agree C (cut_count P) _ _ (λ c l. agree_twin C (twin_only C (cut_side C P K c) (overlapping-same C P K a b S c)))

-- ---- the marks, from seeds and influence sets alike in the circle

pub record MarksAgree (C : ℕ → Bool) (m n : Marks) : Type 0 where
  pub discretion : Agree C m.discretion n.discretion
  pub overlap : Agree C m.overlap n.overlap

module _ (C : ℕ → Bool) (P : Plan) (K : Uncrossed C P) (I J : Influence) (w : Twins C (I.facts ++ I.decisions) (J.facts ++ J.decisions)) where
  spread-agree : (m n : ℕ) → Agree C m n → Agree C (spread P I m) (spread P J n)
  unfolding spread
  spread-agree m n h = close_agree C (rule_sets P) (rule_sets P) _ _ (twins-self C (rule_sets P) K) (close_agree C (I.facts ++ I.decisions) (J.facts ++ J.decisions) m n w h)

  pub marks-agree : (roster : ℕ) (a b : Active) → Same C P a b → MarksAgree C (marks_of P roster I a) (marks_of P roster J b)
  unfolding marks_of
  marks-agree roster a b S = record {
    discretion = spread-agree _ _ (discretion-agree C P roster K a b S);
    overlap = spread-agree _ _ (overlap-agree C P roster K a b S);
  }
