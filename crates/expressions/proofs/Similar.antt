-- Two bindings that are alike at what touches a person's circle: their valuations, admissible worlds and influence, seen from the circle.
use mathlib.Core.Path.{◌≡◌, refl, sym, ap, ap₂, ◌∙◌, subst}
use mathlib.Core.Bool.{Bool, true, false, ◌||◌}
use mathlib.Core.List.{List, [], ◌∷◌, ◌++◌}
use mathlib.Core.Logic.{◌⊎◌, inl, inr}
use Prim.Native.Nat.{ℕ, ◌≤◌, ◌<◌}
use lib.Dec.{eqb}
use borrow.Author.Tests.{eqb-true}
use Rattle.sets.specs.paper.Sets.{has, one, union, only, close_of}
use Rattle.records.specs.paper.Plan.{Plan}
use Rattle.sets.proofs.SetLaws.{has-union, has-none, has_one, lt_or_le}
use Rattle.sets.proofs.Local.{which, clash, Outside, Side, inside, outside, Twin, near, far, Twins, in_only, out-only, out-not, twin_near, twins_append, twins-below, close_in, close_out}
use Rattle.expressions.specs.paper.Rules.{fact_count, rule_sets}
use Rattle.expressions.specs.paper.Nodes.{on, values}
use Rattle.expressions.specs.paper.Influence.{Frame, constraint_uses, touch, touches_circle, decision_count, decision_touch, uses_at}
use Rattle.expressions.specs.paper.Bindings.{Choice, just, both, Bound, binding_at}
use Rattle.expressions.specs.paper.Variables.{Slot, fact, decision, choices, is_variable, choice, Values, set, choose, valuations, admissible, fact_influence, decision_influence, influence}
use Rattle.expressions.proofs.Follow.{all_follows, node_follows}
use Rattle.expressions.proofs.Circles.{Circle, in_circle, uncrossed, fact_side, decision_side, touching, touch-roster}

-- ---- the lists of worlds of two ways to choose, by a relation that joining keeps and that does not count how often

module _ {A B : Type 0} (R : List A → List B → Type 0)
    (join : (a c : List A) (b d : List B) → R a b → R c d → R (a ++ c) (b ++ d))
    (left : (a c : List A) (b : List B) → R a b → R c b → R (a ++ c) b)
    (right : (a : List A) (b d : List B) → R a b → R a d → R a (b ++ d)) where
  near-choice : (c : Choice) (f : Bool → List A) (g : Bool → List B) → ((b : Bool) → R (f b) (g b)) → R (choose c f) (choose c g)
  near-choice (just b) f g h = h b
  near-choice both f g h = join (f false) (f true) (g false) (g true) (h false) (h true)

  far-choice : (c d : Choice) (f : Bool → List A) (g : Bool → List B) → ((a b : Bool) → R (f a) (g b)) → R (choose c f) (choose d g)
  far-choice (just a) (just b) f g h = h a b
  far-choice (just a) both f g h = right (f a) (g false) (g true) (h a false) (h a true)
  far-choice both (just b) f g h = left (f false) (f true) (g b) (h false b) (h true b)
  far-choice both both f g h = join (f false) (f true) (g false) (g true) (h false false) (h true true)

  -- `Sim`: the valuations agree where it counts. A slot has equal choices, or it does not count how it is set.
  module _ (Sim : Values → Values → Type 0) (c d : Slot → Choice) (f : Values → List A) (g : Values → List B) where
    abbrev pub Sorted : Slot → Type 0
    Sorted s =
        ((c s ≡ d s) × ((b : Bool) (v w : Values) → Sim v w → Sim (set s b v) (set s b w)))
        ⊎ ((a b : Bool) (v w : Values) → Sim v w → Sim (set s a v) (set s b w))

    pub worlds-near : ((s : Slot) → Sorted s) → ((v w : Values) → Sim v w → R (f v) (g w))
        → (ss : List Slot) (v w : Values) → Sim v w → R (valuations c f ss v) (valuations d g ss w)
    unfolding valuations
    worlds-near sort leaf [] v w h = leaf v w h
    worlds-near sort leaf (s ∷ ss) v w h = go (sort s) (λ v w. worlds-near sort leaf ss v w)
      where
        go : Sorted s → ((v w : Values) → Sim v w → R (valuations c f ss v) (valuations d g ss w))
            → R (choose (c s) (λ b. valuations c f ss (set s b v))) (choose (d s) (λ b. valuations d g ss (set s b w)))
        go (inl (e, keep)) ih =
            subst (λ (x : Choice). R (choose (c s) (λ b. valuations c f ss (set s b v))) (choose x (λ b. valuations d g ss (set s b w)))) e
            (near-choice (c s) (λ b. valuations c f ss (set s b v)) (λ b. valuations d g ss (set s b w)) (λ b. ih (set s b v) (set s b w) (keep b v w h)))
        go (inr keep) ih =
            far-choice (c s) (d s) (λ b. valuations c f ss (set s b v)) (λ b. valuations d g ss (set s b w))
            (λ a b. ih (set s a v) (set s b w) (keep a b v w h))

-- ---- valuations alike at what touches the circle C

pub record Similar (F : Frame) (C : ℕ → Bool) (v w : Values) : Type 0 where
  pub facts : (f q : ℕ) → has (touch F f) q ≡ true → C q ≡ true → has v.facts f ≡ has w.facts f
  pub decisions : (d q : ℕ) → has (decision_touch F.plan d) q ≡ true → C q ≡ true → has v.decisions d ≡ has w.decisions d

pub similar_start : (F : Frame) (C : ℕ → Bool) (v : Values) → Similar F C v v
similar_start F C v = record { facts = λ f q h e. refl; decisions = λ d q h e. refl }

-- a variable that touches nobody of C is not the one that does
other : (C : ℕ → Bool) (touch : ℕ → ℕ) (f g q : ℕ) (b : Bool) → Outside C (touch f) → has (touch g) q ≡ true → C q ≡ true → has (only b (one f)) g ≡ false
other C touch f g q false o h e = has-none g
other C touch f g q true o h e = has_one f g ∙ go (which (eqb f g))
  where
    go : (eqb f g ≡ true) ⊎ (eqb f g ≡ false) → eqb f g ≡ false
    go (inr x) = x
    go (inl x) = clash (subst (λ (k : ℕ). has (touch k) q ≡ true) (sym (eqb-true f g x)) h) (out-not C q o e)

union_at : (a b x y g : ℕ) → has a g ≡ has b g → has x g ≡ has y g → has (union a x) g ≡ has (union b y) g
union_at a b x y g h k = has-union a x g ∙ ap₂ ◌||◌ h k ∙ sym (has-union b y g)

pub set_alike : (F : Frame) (C : ℕ → Bool) (s : Slot) (b : Bool) (v w : Values) → Similar F C v w → Similar F C (set s b v) (set s b w)
unfolding set
set_alike F C (fact f) b v w S = record {
  facts = λ g q x y. union_at v.facts w.facts (only b (one f)) (only b (one f)) g (S.facts g q x y) refl;
  decisions = S.decisions;
}
set_alike F C (decision d) b v w S = record {
  facts = S.facts;
  decisions = λ g q x y. union_at v.decisions w.decisions (only b (one d)) (only b (one d)) g (S.decisions g q x y) refl;
}

-- whom a variable touches
abbrev pub touch_of : Frame → Slot → ℕ
touch_of F (fact f) = touch F f
touch_of F (decision d) = decision_touch F.plan d

pub set-far : (F : Frame) (C : ℕ → Bool) (s : Slot) → Outside C (touch_of F s) → (a b : Bool) (v w : Values) → Similar F C v w → Similar F C (set s a v) (set s b w)
unfolding set
set-far F C (fact f) o a b v w S = record {
  facts = λ g q x y.
      union_at v.facts w.facts (only a (one f)) (only b (one f)) g (S.facts g q x y)
      (other C (touch F) f g q a o x y ∙ sym (other C (touch F) f g q b o x y));
  decisions = S.decisions;
}
set-far F C (decision d) o a b v w S = record {
  facts = S.facts;
  decisions = λ g q x y.
      union_at v.decisions w.decisions (only a (one d)) (only b (one d)) g (S.decisions g q x y)
      (other C (decision_touch F.plan) d g q a o x y ∙ sym (other C (decision_touch F.plan) d g q b o x y));
}

-- the roster's persons are touched by what the constraints use
pub admissible-near : (F : Frame) (C : ℕ → Bool) (p : ℕ) → C p ≡ true → has F.roster p ≡ true → (v w : Values) → Similar F C v w → admissible F v ≡ admissible F w
unfolding admissible constraint_uses
admissible-near F C p e r v w S =
    all_follows v.facts w.facts (uses_at F.plan) (on (values F.plan v.facts)) (on (values F.plan w.facts))
    (node_follows v.facts w.facts F.plan) F.constraints
    (record { at = λ f u. S.facts f p ((touch-roster F f u).at p r) e })

-- ---- two bindings, seen from the circle of p

-- a fact past the last one touches whom it will: no case binds it
abbrev pub BoundAlike : Frame → ℕ → List Bound → List Bound → Type 0
BoundAlike F p bs cs = (f : ℕ) → (f < fact_count F.plan → touches_circle F f p ≡ true) → binding_at bs f ≡ binding_at cs f

module _ (F : Frame) (p : ℕ) (bs cs : List Bound) (alike : BoundAlike F p bs cs) where
  abbrev C : ℕ → Bool
  C = Circle F p

  abbrev P : Plan
  P = F.plan

  pub sorted : (s : Slot)
      → ((choice bs s ≡ choice cs s) × ((b : Bool) (v w : Values) → Similar F C v w → Similar F C (set s b v) (set s b w)))
      ⊎ ((a b : Bool) (v w : Values) → Similar F C v w → Similar F C (set s a v) (set s b w))
  sorted (decision d) = inl (refl, set_alike F C (decision d))
  sorted (fact k) = go (lt_or_le k (fact_count P))
    where
      Here : Type 0
      Here = ((choices (binding_at bs k) ≡ choices (binding_at cs k)) × ((b : Bool) (v w : Values) → Similar F C v w → Similar F C (set (fact k) b v) (set (fact k) b w)))
          ⊎ ((a b : Bool) (v w : Values) → Similar F C v w → Similar F C (set (fact k) a v) (set (fact k) b w))

      side : Side C (touch F k) → Here
      side (inside q h e i) = inl (ap choices (alike k (λ l. touching F p k q h e)), set_alike F C (fact k))
      side (outside o) = inr (set-far F C (fact k) o)

      go : (k < fact_count P) ⊎ (fact_count P ≤ k) → Here
      go (inl l) = side (fact_side F p k l)
      go (inr l) = inl (ap choices (alike k (λ m. absurd (native.Mathlib.Nat.lt_irrefl k (native.Mathlib.Nat.lt_of_lt_of_le m l)))), set_alike F C (fact k))

  pub admissible-same : has F.roster p ≡ true → (v w : Values) → Similar F C v w → admissible F v ≡ admissible F w
  admissible-same = admissible-near F C p (in_circle F p)

  -- influence: near, and of the same variables; or outside
  fact_twin : (f : ℕ) → f < fact_count P → Twin C (fact_influence F bs f) (fact_influence F cs f)
  unfolding fact_influence
  fact_twin f l = go (fact_side F p f l)
    where
      whole : ℕ
      whole = close_of (rule_sets P) (touch F f)

      go : Side C (touch F f) → Twin C (only (is_variable (binding_at bs f)) whole) (only (is_variable (binding_at cs f)) whole)
      go (inside q h e i) =
          twin_near C (in_only C (is_variable (binding_at bs f)) (close_in C (rule_sets P) (touch F f) (uncrossed F p) i))
          (ap (λ (x : Bound). only (is_variable x) whole) (alike f (λ l. touching F p f q h e)))
      go (outside o) =
          let far-off = close_out C (rule_sets P) (touch F f) (uncrossed F p) o in
          far (out-only C (is_variable (binding_at bs f)) far-off) (out-only C (is_variable (binding_at cs f)) far-off)

  decision_twin : (d : ℕ) → d < decision_count P → Twin C (decision_influence F d) (decision_influence F d)
  unfolding decision_influence
  decision_twin d l = go (decision_side F p d l)
    where
      go : Side C (decision_touch P d) → Twin C (close_of (rule_sets P) (decision_touch P d)) (close_of (rule_sets P) (decision_touch P d))
      go (inside q h e i) = near (close_in C (rule_sets P) (decision_touch P d) (uncrossed F p) i)
      go (outside o) = let far-off = close_out C (rule_sets P) (decision_touch P d) (uncrossed F p) o in far far-off far-off

  pub facts-twins : Twins C (influence F bs).facts (influence F cs).facts
  unfolding influence
  facts-twins = twins-below C (fact_influence F bs) (fact_influence F cs) (fact_count P) fact_twin

  pub decisions-twins : Twins C (influence F bs).decisions (influence F cs).decisions
  unfolding influence
  decisions-twins = twins-below C (decision_influence F) (decision_influence F) (decision_count P) decision_twin

  pub influence-twins : Twins C ((influence F bs).facts ++ (influence F bs).decisions) ((influence F cs).facts ++ (influence F cs).decisions)
  influence-twins =
      twins_append C (influence F bs).facts (influence F cs).facts (influence F bs).decisions (influence F cs).decisions facts-twins decisions-twins
