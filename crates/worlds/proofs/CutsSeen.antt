-- What rules say, seen from a circle that none of them crosses: steps 1 and 3 to 5 of a world.
use mathlib.Core.Path.{◌≡◌, refl, sym, ap, ap₂, ◌∙◌, subst}
use mathlib.Core.Bool.{Bool, true, false, ◌&&◌, ◌||◌, not, beq, and-false}
use mathlib.Core.List.{List}
use Prim.Native.Nat.{ℕ, ◌<◌}
use lib.Dec.{eqb}
use borrow.Author.Tests.{eqb-true}
use Rattle.sets.specs.paper.Sets.{has, one, meets, below, any_of, union_of}
use Rattle.records.specs.paper.Plan.{Plan}
use Rattle.sets.proofs.SetLaws.{Within, in_union_r}
use Rattle.sets.proofs.Local.{Inside, Side, inside, outside, Flag, ins, meets-out, any_same, any_none}
use Rattle.expressions.specs.paper.Rules.{edge_count, cut_count, attachment_count, bar_count, status_count, edge, cut, attachment, bar, status, pair, with_anchor}
use Rattle.expressions.specs.paper.Nodes.{on, values}
use Rattle.expressions.specs.paper.Influence.{Frame, touch, uses_at, edge_uses, cut_uses, attachment_uses, bar_uses, status_uses, says, decision_count, open_decision, decision_touch}
use Rattle.expressions.specs.paper.Variables.{Values}
use Rattle.expressions.proofs.ListLaws.{below_at}
use Rattle.expressions.proofs.Follow.{On, on-left, on-right, any_follows, node_follows}
use Rattle.expressions.proofs.Circles.{Uncrossed, edge_side, cut_side, touch-edge, touch-cut, touch-attachment, touch-bar, touch-status}
use Rattle.expressions.proofs.Similar.{Similar}
use Rattle.worlds.specs.paper.Active.{Active, flags, active, blocks_edge}
use Rattle.worlds.specs.paper.World.{about, kept_cut, kept_cuts, precedes, same_members, overlapping_cut, overlapping_cuts, blocked_by, blocked_cut, applied_cuts}

-- two worlds that say the same of the rules in the circle
pub record Same (C : ℕ → Bool) (P : Plan) (a b : Active) : Type 0 where
  pub frozen : Flag C (pair P) (on a.frozen) (on b.frozen)
  pub cuts : Flag C (λ i. (cut P i).members) (on a.cuts) (on b.cuts)
  pub attachments : Flag C (with_anchor P) (on a.attachments) (on b.attachments)
  pub bars : Flag C (λ i. (bar P i).members) (on a.bars) (on b.bars)
  pub statuses : Flag C (λ i. one (status P i).person) (on a.statuses) (on b.statuses)
  pub decisions : (d q : ℕ) → has (decision_touch P d) q ≡ true → C q ≡ true → has a.decisions d ≡ has b.decisions d

-- answers for each rule of a kind
pub flags-below : (C : ℕ → Bool) (persons : ℕ → ℕ) (n : ℕ) (f g : ℕ → Bool)
    → ((i q : ℕ) → i < n → has (persons i) q ≡ true → C q ≡ true → f i ≡ g i) → Flag C persons (on (below n f)) (on (below n g))
flags-below C persons n f g h i q x y = below_at n f g false i (λ l. h i q l x y)

-- ---- step 1: what an edge says follows from the facts that it uses

-- it is active, and no defeater of it is
abbrev pub freezes : Plan → ℕ → ℕ → Bool
freezes P facts i = on (values P facts) (edge P i).condition && not (any_of (on (values P facts)) (edge P i).defeaters)

pub freezes_follow : (P : Plan) (v w i : ℕ) → On (edge_uses P i) v w → freezes P v i ≡ freezes P w i
unfolding edge_uses
freezes_follow P v w i o =
    ap₂ (λ (x y : Bool). x && not y)
    (node_follows v w P (edge P i).condition (on-left (uses_at P (edge P i).condition) (union_of (uses_at P) (edge P i).defeaters) o))
    (any_follows v w (uses_at P) (on (values P v)) (on (values P w)) (node_follows v w P) (edge P i).defeaters
    (on-right (uses_at P (edge P i).condition) (union_of (uses_at P) (edge P i).defeaters) o))

-- rules of persons of the circle use facts that touch it

module _ (F : Frame) (C : ℕ → Bool) (v w : Values) (S : Similar F C v w) where
  abbrev P : Plan
  P = F.plan

  by : (q : ℕ) → C q ≡ true → (u s : ℕ) → has s q ≡ true → ((f : ℕ) → has u f ≡ true → Within s (touch F f)) → On u v.facts w.facts
  by q e u s h t = record { at = λ f x. S.facts f q ((t f x).at q h) e }

  node : (i : ℕ) → On (uses_at P i) v.facts w.facts → on (values P v.facts) i ≡ on (values P w.facts) i
  node = node_follows v.facts w.facts P

  frozen_same : (i q : ℕ) → i < edge_count P → has (pair P i) q ≡ true → C q ≡ true → freezes P v.facts i ≡ freezes P w.facts i
  frozen_same i q l h e = freezes_follow P v.facts w.facts i (by q e (edge_uses P i) (pair P i) h (λ f x. touch-edge F f i l x))

  pub active-same : Same C P (active P v) (active P w)
  unfolding active flags cut_uses attachment_uses bar_uses status_uses
  active-same = record {
    frozen = flags-below C (pair P) (edge_count P) _ _ frozen_same;
    cuts = flags-below C (λ i. (cut P i).members) (cut_count P) _ _ (λ i q l h e. node (cut P i).condition (by q e (cut_uses P i) (cut P i).members h (λ f x. touch-cut F f i l x)));
    attachments = flags-below C (with_anchor P) (attachment_count P) _ _ (λ i q l h e. node (attachment P i).condition (by q e (attachment_uses P i) (with_anchor P i) h (λ f x. touch-attachment F f i l x)));
    bars = flags-below C (λ i. (bar P i).members) (bar_count P) _ _ (λ i q l h e. node (bar P i).condition (by q e (bar_uses P i) (bar P i).members h (λ f x. touch-bar F f i l x)));
    statuses = flags-below C (λ i. one (status P i).person) (status_count P) _ _
        (λ i q l h e. node (status P i).condition (by q e (status_uses P i) (one (status P i).person) h (λ f x. touch-status F f i l x)));
    decisions = S.decisions;
  }

-- ---- a test of the rules that meet a set inside

pub about-near : (C : ℕ → Bool) (n : ℕ) (persons : ℕ → ℕ) (m : ℕ) (f g : ℕ → Bool) → Inside C m → ((i : ℕ) → Side C (persons i)) → Flag C persons f g
    → about n persons m f ≡ about n persons m g
unfolding about
about-near C n persons m f g h k e = any_same n (λ i. meets m (persons i) && f i) (λ i. meets m (persons i) && g i) (λ i l. go i (k i))
  where
    go : (i : ℕ) → Side C (persons i) → (meets m (persons i) && f i) ≡ (meets m (persons i) && g i)
    go i (inside q x y z) = ap (λ (b : Bool). meets m (persons i) && b) (e i q x y)
    go i (outside o) = ap (λ (b : Bool). b && f i) (meets-out C h o) ∙ sym (ap (λ (b : Bool). b && g i) (meets-out C h o))

pub about-none : (C : ℕ → Bool) (n : ℕ) (persons : ℕ → ℕ) (m : ℕ) (f : ℕ → Bool) → Inside C m → ((i : ℕ) → Side C (persons i)) → Flag C persons f (λ i. false)
    → about n persons m f ≡ false
unfolding about
about-none C n persons m f h k e =
    about-near C n persons m f (λ i. false) h k e ∙ any_none n (λ i. meets m (persons i) && false) (λ i l. and-false (meets m (persons i)))

-- ---- steps 3 to 5

module _ (C : ℕ → Bool) (P : Plan) (K : Uncrossed C P) (a b : Active) (S : Same C P a b) where
  abbrev members : ℕ → ℕ
  members i = (cut P i).members

  cut_in : (c q : ℕ) → has (members c) q ≡ true → C q ≡ true → Inside C (members c)
  cut_in c q h e = ins C (cut_side C P K c) h e

  pub kept_same : Flag C members (on (kept_cuts P a)) (on (kept_cuts P b))
  unfolding kept_cuts kept_cut
  kept_same =
      flags-below C members (cut_count P) (kept_cut P a) (kept_cut P b) (λ c q l h e. ap₂ (λ (x y : Bool). x && not y) (S.cuts c q h e)
      (about-near C (cut_count P) members (members c) _ _ (cut_in c q h e) (cut_side C P K)
      (λ d r i j. ap (λ (x : Bool). x && (precedes P d c && not (precedes P c d))) (S.cuts d r i j))))

  abbrev kept : Active → List Bool
  kept u = kept_cuts P u

  pub overlapping-same : Flag C members (on (overlapping_cuts P (kept a))) (on (overlapping_cuts P (kept b)))
  unfolding overlapping_cuts overlapping_cut
  overlapping-same =
      flags-below C members (cut_count P) (overlapping_cut P (kept a)) (overlapping_cut P (kept b)) (λ c q l h e. ap₂ ◌&&◌ (kept_same c q h e)
      (about-near C (cut_count P) members (members c) _ _ (cut_in c q h e) (cut_side C P K)
      (λ d r i j. ap (λ (x : Bool). x && not (same_members P c d)) (kept_same d r i j))))

  -- an open decision on an edge of the circle touches it
  open_same : (d e q : ℕ) → has (pair P e) q ≡ true → C q ≡ true → (k : ℕ)
      → ((eqb (open_decision P k).cut d && eqb (open_decision P k).edge e) && not (has a.decisions k))
      ≡ ((eqb (open_decision P k).cut d && eqb (open_decision P k).edge e) && not (has b.decisions k))
  unfolding decision_touch
  open_same d e q h y k = go (eqb (open_decision P k).cut d) (eqb (open_decision P k).edge e) refl
    where
      go : (x z : Bool) → eqb (open_decision P k).edge e ≡ z → ((x && z) && not (has a.decisions k)) ≡ ((x && z) && not (has b.decisions k))
      go false z t = refl
      go true false t = refl
      go true true t =
          ap not (S.decisions k q ((in_union_r (members (open_decision P k).cut) (pair P (open_decision P k).edge)).at q
          (subst (λ (i : ℕ). has (pair P i) q ≡ true) (sym (eqb-true (open_decision P k).edge e t)) h)) y)

  pub by_edge : (d : ℕ) → Flag C (pair P) (blocked_by P a d) (blocked_by P b d)
  unfolding blocked_by blocks_edge
  by_edge d e q h y =
      ap₂ (λ (x z : Bool). (x && (edge P e).combination)
      && (not (beq (has (members d) (edge P e).left) (has (members d) (edge P e).right)) && (says P d e 1 || z)))
      (S.frozen e q h y) (any_same (decision_count P) _ _ (λ k l. open_same d e q h y k))

  blocked-same : Flag C members (blocked_cut P a (kept a)) (blocked_cut P b (kept b))
  unfolding blocked_cut
  blocked-same c q h e =
      about-near C (cut_count P) members (members c) _ _ (cut_in c q h e) (cut_side C P K)
      (λ d r i j. ap₂ (λ (x y : Bool). x && (same_members P c d && y)) (kept_same d r i j)
      (about-near C (edge_count P) (pair P) (members d) _ _ (cut_in d r i j) (edge_side C P K) (by_edge d)))

  abbrev applied : Active → List Bool
  applied u = applied_cuts P u (kept u) (overlapping_cuts P (kept u))

  pub applied-same : Flag C members (on (applied a)) (on (applied b))
  unfolding applied_cuts
  applied-same =
      flags-below C members (cut_count P) _ _
      (λ c q l h e. ap₂ (λ (x y : Bool). x && not y) (ap₂ (λ (x y : Bool). x && not y) (kept_same c q h e) (overlapping-same c q h e)) (blocked-same c q h e))
