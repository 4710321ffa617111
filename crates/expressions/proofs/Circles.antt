-- No rule, no fact's touch and no decision reaches across a circle's line.
use mathlib.Core.Path.{◌≡◌, sym, ap, subst}
use mathlib.Core.Bool.{Bool, true, not}
use mathlib.Core.List.{List, [], ◌∷◌, ◌++◌}
use mathlib.Core.Logic.{◌⊎◌, inl, inr}
use Prim.Native.Nat.{ℕ, zero, suc, ◌≤◌, ◌<◌}
use lib.ListN.{get_or, get_or-eq_default}
use Rattle.sets.specs.paper.Sets.{has, one, union, meets, only, set_of, below, union_below, All}
use Rattle.records.specs.paper.Plan.{Plan, get_fact}
use Rattle.sets.proofs.SetLaws.{Within, in_union_l, in_union_r, thru, within-refl, lt_or_le, meeting}
use Rattle.sets.proofs.Closing.{close_closed, close_within, in_one}
use Rattle.sets.proofs.Local.{Side, Weak, in_zero, single_side, side_of, closed_weak, all_below}
use Rattle.sets.proofs.Every.{all_parts}
use Rattle.sets.proofs.BelowLaws.{in_below, in_only}
use Rattle.expressions.specs.paper.Rules.{edge_count, cut_count, attachment_count, bar_count, status_count, fact_count, edge, cut, attachment, bar, status, pair, with_anchor, rule_sets}
use Rattle.expressions.specs.paper.Influence.{Frame, edge_uses, cut_uses, attachment_uses, bar_uses, status_uses, users_of, constraint_uses, bound_facts, touched, touch, touches, decision_count, decision_touch, decision_touches, joins, circle, touches_circle}
use Rattle.sets.proofs.UnionLaws.{none-union, union_self}

-- ---- a circle that no rule crosses, of whatever persons

abbrev pub Uncrossed : (ℕ → Bool) → Plan → Type 0
Uncrossed C P = All (Weak C) (rule_sets P)

-- whom a rule past its count holds: the person 64 alone, or nobody
module _ (C : ℕ → Bool) (P : Plan) where
  pair-past : (i : ℕ) → edge_count P ≤ i → Side C (pair P i)
  unfolding pair edge
  pair-past i l =
      subst (λ e. Side C (union (one e.left) (one e.right))) (sym (get_or-eq_default P.edges _ l))
      (subst (Side C) (sym (union_self (one 64))) (single_side C 64))

  cut-past : (i : ℕ) → cut_count P ≤ i → Side C (cut P i).members
  unfolding cut
  cut-past i l = subst (λ c. Side C c.members) (sym (get_or-eq_default P.cuts _ l)) (side_of C 0 (inl (in_zero C)))

  span_past : (i : ℕ) → attachment_count P ≤ i → Side C (with_anchor P i)
  unfolding with_anchor attachment
  span_past i l =
      subst (λ a. Side C (union a.members (one a.anchor))) (sym (get_or-eq_default P.attachments _ l))
      (subst (Side C) (sym (none-union (one 64))) (single_side C 64))

  bar-past : (i : ℕ) → bar_count P ≤ i → Side C (bar P i).members
  unfolding bar
  bar-past i l = subst (λ b. Side C b.members) (sym (get_or-eq_default P.bars _ l)) (side_of C 0 (inl (in_zero C)))

  -- below its count a kind's sets stand in a list, past it they are told apart
  everywhere : (n : ℕ) (s : ℕ → ℕ) → All (Weak C) (below n s) → ((i : ℕ) → n ≤ i → Side C (s i)) → (i : ℕ) → Side C (s i)
  everywhere n s h past i = go (lt_or_le i n)
    where
      go : (i < n) ⊎ (n ≤ i) → Side C (s i)
      go (inl l) = side_of C (s i) (all_below (Weak C) n s h i l)
      go (inr l) = past i l

  module _ (K : Uncrossed C P) where
    abbrev edges : List ℕ
    edges = below (edge_count P) (pair P)

    abbrev cuts : List ℕ
    cuts = below (cut_count P) (λ i. (cut P i).members)

    abbrev attachments : List ℕ
    attachments = below (attachment_count P) (with_anchor P)

    abbrev bars : List ℕ
    bars = below (bar_count P) (λ i. (bar P i).members)

    split : All (Weak C) edges × (All (Weak C) cuts × (All (Weak C) attachments × All (Weak C) bars))
    unfolding rule_sets
    split =
        let a = all_parts (Weak C) edges (cuts ++ (attachments ++ bars)) K in
        let b = all_parts (Weak C) cuts (attachments ++ bars) a.1 in
        let c = all_parts (Weak C) attachments bars b.1 in
        (a.0, (b.0, (c.0, c.1)))

    pub edge_side : (i : ℕ) → Side C (pair P i)
    edge_side = everywhere (edge_count P) (pair P) split.0 pair-past

    pub cut_side : (i : ℕ) → Side C (cut P i).members
    cut_side = everywhere (cut_count P) (λ i. (cut P i).members) split.1.0 cut-past

    pub span_side : (i : ℕ) → Side C (with_anchor P i)
    span_side = everywhere (attachment_count P) (with_anchor P) split.1.1.0 span_past

    pub bar_side : (i : ℕ) → Side C (bar P i).members
    bar_side = everywhere (bar_count P) (λ i. (bar P i).members) split.1.1.1 bar-past

-- ---- whom a fact touches: everybody of a rule that uses it

abbrev nested : List ℕ → ℕ → ℕ
nested [] z = z
nested (s ∷ ss) z = union s (nested ss z)

nested_at : (ss : List ℕ) (z k : ℕ) → Within (get_or ss k z) (nested ss z)
nested_at [] z k = within-refl z
nested_at (s ∷ ss) z zero = in_union_l s (nested ss z)
nested_at (s ∷ ss) z (suc k) = thru (nested_at ss z k) (in_union_r s (nested ss z))

module _ (F : Frame) where
  abbrev P : Plan
  P = F.plan

  touch_by_lem : (f s : ℕ) → has (bound_facts F) f ≡ true → Within s (touched F f) → Within s (touch F f)
  unfolding touch
  touch_by_lem f s b h = subst (λ (t : Bool). Within s (only t (touched F f))) (sym b) h

  users_within : (n : ℕ) (uses persons : ℕ → ℕ) (f i : ℕ) → i < n → has (uses i) f ≡ true → Within (persons i) (users_of n uses persons f)
  unfolding users_of
  users_within n uses persons f i l u = thru (in_only (has (uses i) f) (persons i) u) (in_below n (λ j. only (has (uses j) f) (persons j)) i l)

  -- the facts that each kind of rule uses, the constraints first; and whom the fact touches by each, its tuple first
  abbrev used : List ℕ
  used =
      constraint_uses F ∷ union_below (edge_count P) (edge_uses P) ∷ union_below (cut_count P) (cut_uses P)
      ∷ union_below (attachment_count P) (attachment_uses P) ∷ union_below (bar_count P) (bar_uses P) ∷ []

  abbrev users : ℕ → List ℕ
  users f =
      set_of (get_fact P f).tuple ∷ only (has (constraint_uses F) f) F.roster ∷ users_of (edge_count P) (edge_uses P) (pair P) f
      ∷ users_of (cut_count P) (cut_uses P) (λ i. (cut P i).members) f ∷ users_of (attachment_count P) (attachment_uses P) (with_anchor P) f
      ∷ users_of (bar_count P) (bar_uses P) (λ i. (bar P i).members) f ∷ []

  part_used : (k : ℕ) → Within (get_or used k (union_below (status_count P) (status_uses P))) (bound_facts F)
  unfolding bound_facts
  part_used k = nested_at used (union_below (status_count P) (status_uses P)) k

  part-touched : (f k : ℕ) → Within (get_or (users f) k (users_of (status_count P) (status_uses P) (λ i. one (status P i).person) f)) (touched F f)
  unfolding touched
  part-touched f k = nested_at (users f) (users_of (status_count P) (status_uses P) (λ i. one (status P i).person) f) k

  -- of one kind of rule
  by_rule : (n : ℕ) (uses persons : ℕ → ℕ) (f : ℕ) → Within (union_below n uses) (bound_facts F) → Within (users_of n uses persons f) (touched F f)
      → (i : ℕ) → i < n → has (uses i) f ≡ true → Within (persons i) (touch F f)
  by_rule n uses persons f b t i l u =
      touch_by_lem f (persons i) (b.at f ((in_below n uses i l).at f u)) (thru (users_within n uses persons f i l u) t)

  pub touch-roster : (f : ℕ) → has (constraint_uses F) f ≡ true → Within F.roster (touch F f)
  touch-roster f u =
      touch_by_lem f F.roster ((part_used 0).at f u) (thru (in_only (has (constraint_uses F) f) F.roster u) (part-touched f 1))

  pub touch-edge : (f i : ℕ) → i < edge_count P → has (edge_uses P i) f ≡ true → Within (pair P i) (touch F f)
  touch-edge f = by_rule (edge_count P) (edge_uses P) (pair P) f (part_used 1) (part-touched f 2)

  pub touch-cut : (f i : ℕ) → i < cut_count P → has (cut_uses P i) f ≡ true → Within (cut P i).members (touch F f)
  touch-cut f = by_rule (cut_count P) (cut_uses P) (λ i. (cut P i).members) f (part_used 2) (part-touched f 3)

  pub touch-attachment : (f i : ℕ) → i < attachment_count P → has (attachment_uses P i) f ≡ true → Within (with_anchor P i) (touch F f)
  touch-attachment f = by_rule (attachment_count P) (attachment_uses P) (with_anchor P) f (part_used 3) (part-touched f 4)

  pub touch-bar : (f i : ℕ) → i < bar_count P → has (bar_uses P i) f ≡ true → Within (bar P i).members (touch F f)
  touch-bar f = by_rule (bar_count P) (bar_uses P) (λ i. (bar P i).members) f (part_used 4) (part-touched f 5)

  pub touch-status : (f i : ℕ) → i < status_count P → has (status_uses P i) f ≡ true → Within (one (status P i).person) (touch F f)
  touch-status f = by_rule (status_count P) (status_uses P) (λ i. one (status P i).person) f (part_used 5) (part-touched f 6)

  -- ---- the circle of a person

  module _ (p : ℕ) where
    abbrev pub Circle : ℕ → Bool
    Circle = has (circle F p)

    pub in_circle : Circle p ≡ true
    unfolding circle
    in_circle = (close_within (joins F) (one p)).at p (in_one p)

    sides : All (Weak Circle) (rule_sets P) × (All (Weak Circle) (touches F) × All (Weak Circle) (decision_touches F))
    unfolding circle joins
    sides =
        let a = all_parts (Weak Circle) (rule_sets P) (touches F ++ decision_touches F) (closed_weak (joins F) (circle F p) (close_closed (joins F) (one p))) in
        let b = all_parts (Weak Circle) (touches F) (decision_touches F) a.1 in
        (a.0, (b.0, b.1))

    pub uncrossed : Uncrossed Circle P
    uncrossed = sides.0

    pub fact_side : (f : ℕ) → f < fact_count P → Side Circle (touch F f)
    unfolding touches
    fact_side f l = side_of Circle (touch F f) (all_below (Weak Circle) (fact_count P) (touch F) sides.1.0 f l)

    pub decision_side : (d : ℕ) → d < decision_count P → Side Circle (decision_touch P d)
    unfolding decision_touches
    decision_side d l = side_of Circle (decision_touch P d) (all_below (Weak Circle) (decision_count P) (decision_touch P) sides.1.1 d l)

    -- a fact that touches one of the circle touches the circle
    pub touching : (f q : ℕ) → has (touch F f) q ≡ true → Circle q ≡ true → touches_circle F f p ≡ true
    unfolding touches_circle meets
    touching f q h e = ap not (meeting (touch F f) (circle F p) q h e)
