-- Blocks, attachments, bars and statuses of two worlds, seen from a circle in which their rules and marks agree: steps 6 to 8.
use mathlib.Core.Path.{◌≡◌, refl, sym, ap, ap₂, ◌∙◌, subst}
use mathlib.Core.Bool.{Bool, true, false, ◌&&◌, ◌||◌, not, cond, and-false, or-false}
use mathlib.Core.List.{List}
use mathlib.Core.Logic.{◌⊎◌, inl, inr}
use Prim.Native.Nat.{ℕ, ◌<◌, ◌≤◌}
use lib.ListN.{get_or}
use lib.Dec.{eqb}
use borrow.Author.Tests.{not-true, eqb-true}
use Rattle.sets.specs.paper.Sets.{has, one, union, minus, subset, only, below, close_of, All}
use Rattle.records.specs.paper.Plan.{Plan}
use Rattle.sets.proofs.SetLaws.{lt_or_le, has-union, has_one}
use Rattle.sets.proofs.LoopLaws.{get_or-below, get_d_past}
use Rattle.sets.proofs.Local.{clash, Inside, Outside, outer, Agree, Twins, Side, inside, outside, Flag, Weak, weak, weak_only, ins, in_zero, in_only, in_union, in_less, in_cond, in_not, in_left, in_right, at_single, out-not, agree_refl, agree-sym, agree-union, agree-minus, agree_twin, agree_frame, minus-near, minus-far, subset-near, twin_only, twins-below, below_all, below_two, union_in, union-same, union-agree, fold_two, single_side}
use Rattle.expressions.specs.paper.Rules.{edge_count, cut_count, attachment_count, bar_count, status_count, cut, attachment, status, pair, with_anchor}
use Rattle.expressions.specs.paper.Nodes.{on}
use Rattle.expressions.proofs.Circles.{Uncrossed, edge_side, cut_side, span_side, bar_side}
use Rattle.worlds.specs.paper.Active.{Active}
use Rattle.worlds.specs.paper.World.{cut_members, applied_to, rest_sets, first_block, State, block_of, first_state, move, attach, last_state, barred_by, excluded_by}
use Rattle.worlds.proofs.CutsSeen.{Same}
use Rattle.worlds.proofs.MarksSeen.{component_in, component_out, component_same}

-- two states alike in the circle: the same blocks there, inside it; the others' outside
pub record Alike (C : ℕ → Bool) (s t : State) : Type 0 where
  pub same : (p : ℕ) → C p ≡ true → block_of s p ≡ block_of t p
  pub inner : (p : ℕ) → C p ≡ true → Inside C (block_of s p)
  pub left_out : (p : ℕ) → C p ≡ false → Outside C (block_of s p)
  pub right-out : (p : ℕ) → C p ≡ false → Outside C (block_of t p)
  pub left-past : (p : ℕ) → 64 ≤ p → block_of s p ≡ 0
  pub right-past : (p : ℕ) → 64 ≤ p → block_of t p ≡ 0
  pub attached : Agree C s.attached t.attached

alike_sym : (C : ℕ → Bool) (s t : State) → Alike C s t → Alike C t s
alike_sym C s t A = record {
  same = λ p e. sym (A.same p e);
  inner = λ p e. subst (Inside C) (A.same p e) (A.inner p e);
  left_out = A.right-out;
  right-out = A.left_out;
  left-past = A.right-past;
  right-past = A.left-past;
  attached = agree-sym C A.attached;
}

-- ---- step 6

module _ (C : ℕ → Bool) (P : Plan) (K : Uncrossed C P) (applied : List Bool) where
  applied_to_in : (p : ℕ) → C p ≡ true → Inside C (applied_to P applied p)
  unfolding applied_to
  applied_to_in p h = union_in C (cut_count P) _ (λ c l. go c (has (cut P c).members p) refl)
    where
      go : (c : ℕ) (b : Bool) → has (cut P c).members p ≡ b → Inside C (only (on applied c && b) (cut P c).members)
      go c true e = in_only C (on applied c && true) (ins C (cut_side C P K c) e h)
      go c false e = subst (λ (x : Bool). Inside C (only x (cut P c).members)) (sym (and-false (on applied c))) (in_zero C)

  applied_to-out : (p : ℕ) → C p ≡ false → Outside C (applied_to P applied p)
  unfolding applied_to
  applied_to-out p h = union_in (outer C) (cut_count P) _ (λ c l. go c (has (cut P c).members p) refl (cut_side C P K c))
    where
      go : (c : ℕ) (b : Bool) → has (cut P c).members p ≡ b → Side C (cut P c).members → Outside C (only (on applied c && b) (cut P c).members)
      go c b e (outside o) = in_only (outer C) (on applied c && b) o
      go c true e (inside q x y i) = clash (i.at p e) h
      go c false e (inside q x y i) = subst (λ (x : Bool). Outside C (only x (cut P c).members)) (sym (and-false (on applied c))) (in_zero (outer C))

  rest_weak : (a : Active) (rest : ℕ) → All (Weak C) (rest_sets P a rest)
  unfolding rest_sets
  rest_weak a rest = below_all (Weak C) (edge_count P) _ (λ i. weak_only C (on a.frozen i && subset (pair P i) rest) (weak C (edge_side C P K i)))

  module _ (roster marks : ℕ) (ss : List ℕ) (w : All (Weak C) ss) where
    first_in : (p : ℕ) → C p ≡ true → Inside C (first_block P roster marks applied ss p)
    unfolding first_block
    first_in p h =
        in_only C (has roster p && not (has marks p))
        (in_cond C (has (cut_members P applied) p) (in_less C marks (applied_to_in p h)) (component_in C ss w p h))

    first_out : (p : ℕ) → C p ≡ false → Outside C (first_block P roster marks applied ss p)
    unfolding first_block
    first_out p h =
        in_only (outer C) (has roster p && not (has marks p))
        (in_cond (outer C) (has (cut_members P applied) p) (in_less (outer C) marks (applied_to-out p h)) (component_out C ss w p h))

-- ---- step 7: an attachment outside changes nothing inside, one inside does the same in both

-- a block of a state that is made anew
block_at_lem : (Q : ℕ → Type 0) (f : ℕ → ℕ) (p : ℕ) → Q 0 → Q (f p) → Q (get_or (below 64 f) p 0)
block_at_lem Q f p z h = below_two (λ x (y : ℕ). Q x) 64 f f 0 0 z p h

move-far : (C : ℕ → Bool) (i target movers : ℕ) → Outside C target → Outside C movers → (s t : State) → Alike C s t → Alike C (move i target movers s) t
unfolding move
move-far C i target movers to mo s t A = record {
  same = λ p e. kept p e ∙ A.same p e;
  inner = λ p e. subst (Inside C) (sym (kept p e)) (A.inner p e);
  left_out = λ p e. block_at_lem (Outside C) moved p (in_zero (outer C)) (in_cond (outer C) (has target p) to (in_less (outer C) movers (A.left_out p e)));
  right-out = A.right-out;
  left-past = λ p l. get_d_past 64 moved 0 p l;
  right-past = A.right-past;
  attached = agree_frame C A.attached mo;
}
  where
    moved : ℕ → ℕ
    moved p = cond (has target p) target (minus (block_of s p) movers)

    stays : (p : ℕ) → C p ≡ true → moved p ≡ block_of s p
    stays p e = ap (λ (x : Bool). cond x target (minus (block_of s p) movers)) (out-not C p to e) ∙ minus-far C (A.inner p e) mo

    kept : (p : ℕ) → C p ≡ true → get_or (below 64 moved) p 0 ≡ block_of s p
    kept p e = go (lt_or_le p 64)
      where
        go : (p < 64) ⊎ (64 ≤ p) → get_or (below 64 moved) p 0 ≡ block_of s p
        go (inl l) = get_or-below 64 moved 0 p l ∙ stays p e
        go (inr l) = get_d_past 64 moved 0 p l ∙ sym (A.left-past p l)

move-near : (C : ℕ → Bool) (i target movers : ℕ) → Inside C target → Inside C movers → (s t : State) → Alike C s t → Alike C (move i target movers s) (move i target movers t)
unfolding move
move-near C i target movers ti mi s t A = record {
  same = λ p e. below_two ◌≡◌ 64 _ _ 0 0 refl p (ap (λ (x : ℕ). cond (has target p) target (minus x movers)) (A.same p e));
  inner = λ p e. block_at_lem (Inside C) _ p (in_zero C) (in_cond C (has target p) ti (in_less C movers (A.inner p e)));
  left_out = λ p e. block_at_lem (Outside C) _ p (in_zero (outer C)) (outside_of p (block_of s p) e (A.left_out p e));
  right-out = λ p e. block_at_lem (Outside C) _ p (in_zero (outer C)) (outside_of p (block_of t p) e (A.right-out p e));
  left-past = λ p l. get_d_past 64 _ 0 p l;
  right-past = λ p l. get_d_past 64 _ 0 p l;
  attached = agree-union C A.attached (agree_refl C movers);
}
  where
    outside_of : (p x : ℕ) → C p ≡ false → Outside C x → Outside C (cond (has target p) target (minus x movers))
    outside_of p x e o = subst (λ (b : Bool). Outside C (cond b target (minus x movers))) (sym (in_not C p ti e)) (in_less (outer C) movers o)

-- ---- from rules, applied cuts and marks alike in the circle

module _ (C : ℕ → Bool) (P : Plan) (roster : ℕ) (K : Uncrossed C P) (a b : Active) (S : Same C P a b)
    (ka kb : List Bool) (applied : Flag C (λ i. (cut P i).members) (on ka) (on kb)) (m n : ℕ) (marks : Agree C m n) where
  cut_members-agree : Agree C (cut_members P ka) (cut_members P kb)
  unfolding cut_members
  cut_members-agree = union-agree C (cut_count P) _ _ (λ c l. agree_twin C (twin_only C (cut_side C P K c) (applied c)))

  applied_to-same : (p : ℕ) → C p ≡ true → applied_to P ka p ≡ applied_to P kb p
  unfolding applied_to
  applied_to-same p e = union-same (cut_count P) _ _ (λ c l. go c (has (cut P c).members p) refl)
    where
      go : (c : ℕ) (x : Bool) → has (cut P c).members p ≡ x → only (on ka c && x) (cut P c).members ≡ only (on kb c && x) (cut P c).members
      go c true h = ap (λ (y : Bool). only (y && true) (cut P c).members) (applied c p h e)
      go c false h = ap (λ (y : Bool). only y (cut P c).members) (and-false (on ka c) ∙ sym (and-false (on kb c)))

  abbrev rest : ℕ → List Bool → ℕ
  rest marks k = minus (minus roster marks) (cut_members P k)

  rest-twins : Twins C (rest_sets P a (rest m ka)) (rest_sets P b (rest n kb))
  unfolding rest_sets
  rest-twins =
      twins-below C _ _ (edge_count P) (λ i l. twin_only C (edge_side C P K i) (λ q h e. ap₂ ◌&&◌ (S.frozen i q h e)
      (subset-near C (ins C (edge_side C P K i) h e) (agree-minus C (agree-minus C (agree_refl C roster) marks) cut_members-agree))))

  first-same : (p : ℕ) → C p ≡ true → first_block P roster m ka (rest_sets P a (rest m ka)) p ≡ first_block P roster n kb (rest_sets P b (rest n kb)) p
  unfolding first_block
  first-same p e =
      ap₂ (λ (x : Bool) (y : ℕ). only (has roster p && not x) y) (marks.at p e)
      (ap (λ (x : Bool). cond x (minus (applied_to P ka p) m) (close_of (rest_sets P a (rest m ka)) (one p))) (cut_members-agree.at p e)
      ∙ ap₂ (λ (x y : ℕ). cond (has (cut_members P kb) p) x y)
      (minus-near C (applied_to_in C P K ka p e) marks ∙ ap (λ (x : ℕ). minus x n) (applied_to-same p e))
      (component_same C (rest_sets P a (rest m ka)) (rest_sets P b (rest n kb)) (rest_weak C P K ka a (rest m ka)) (rest_weak C P K kb b (rest n kb)) rest-twins p e))

  first_alike : Alike C (first_state P roster m a ka) (first_state P roster n b kb)
  unfolding first_state
  first_alike = record {
    same = λ p e. below_two ◌≡◌ 64 _ _ 0 0 refl p (first-same p e);
    inner = λ p e. block_at_lem (Inside C) _ p (in_zero C) (first_in C P K ka roster m _ (rest_weak C P K ka a (rest m ka)) p e);
    left_out = λ p e. block_at_lem (Outside C) _ p (in_zero (outer C)) (first_out C P K ka roster m _ (rest_weak C P K ka a (rest m ka)) p e);
    right-out = λ p e. block_at_lem (Outside C) _ p (in_zero (outer C)) (first_out C P K kb roster n _ (rest_weak C P K kb b (rest n kb)) p e);
    left-past = λ p l. get_d_past 64 _ 0 p l;
    right-past = λ p l. get_d_past 64 _ 0 p l;
    attached = agree_refl C 0;
  }

  -- an attachment
  abbrev anchor : ℕ → ℕ
  anchor i = (attachment P i).anchor

  abbrev movers : ℕ → ℕ → ℕ
  movers marks i = minus (attachment P i).members marks

  attach-far : (marks : ℕ) (u : Active) (i : ℕ) → Outside C (with_anchor P i) → (s t : State) → Alike C s t → Alike C (attach P marks u i s) t
  unfolding attach with_anchor
  attach-far marks u i o s t A = go (on u.attachments i && not (eqb (block_of s (anchor i)) 0))
    where
      mo : Outside C (movers marks i)
      mo = in_less (outer C) marks (in_left (outer C) (attachment P i).members (one (anchor i)) o)

      to : Outside C (union (block_of s (anchor i)) (movers marks i))
      to = in_union (outer C) (A.left_out (anchor i) (not-true (C (anchor i)) (at_single (outer C) (anchor i) (in_right (outer C) (attachment P i).members (one (anchor i)) o)))) mo

      go : (x : Bool) → Alike C (cond x (move i (union (block_of s (anchor i)) (movers marks i)) (movers marks i) s) s) t
      go true = move-far C i _ _ to mo s t A
      go false = A

  attach-near : (i q : ℕ) → has (with_anchor P i) q ≡ true → C q ≡ true → Inside C (with_anchor P i) → (s t : State) → Alike C s t → Alike C (attach P m a i s) (attach P n b i t)
  unfolding attach with_anchor
  attach-near i q h e j s t A =
      go (on a.attachments i && not (eqb (block_of s (anchor i)) 0)) (on b.attachments i && not (eqb (block_of t (anchor i)) 0))
      (ap₂ (λ (x : Bool) (y : ℕ). x && not (eqb y 0)) (S.attachments i q h e) (A.same (anchor i) ai))
    where
      mi : Inside C (attachment P i).members
      mi = in_left C (attachment P i).members (one (anchor i)) j

      ai : C (anchor i) ≡ true
      ai = at_single C (anchor i) (in_right C (attachment P i).members (one (anchor i)) j)

      moves : movers m i ≡ movers n i
      moves = minus-near C mi marks

      both : Alike C (move i (union (block_of s (anchor i)) (movers m i)) (movers m i) s) (move i (union (block_of t (anchor i)) (movers n i)) (movers n i) t)
      both =
          subst (λ (x : ℕ). Alike C (move i (union (block_of s (anchor i)) (movers m i)) (movers m i) s) (move i (union x (movers n i)) (movers n i) t)) (A.same (anchor i) ai)
          (subst (λ (x : ℕ). Alike C (move i (union (block_of s (anchor i)) (movers m i)) (movers m i) s) (move i (union (block_of s (anchor i)) x) x t)) moves
          (move-near C i _ _ (in_union C (A.inner (anchor i) ai) (in_less C m mi)) (in_less C m mi) s t A))

      go : (x y : Bool) → x ≡ y
          → Alike C (cond x (move i (union (block_of s (anchor i)) (movers m i)) (movers m i) s) s) (cond y (move i (union (block_of t (anchor i)) (movers n i)) (movers n i) t) t)
      go true true z = both
      go false false z = A
      go true false z = clash refl z
      go false true z = clash z refl

  attach_alike : (i : ℕ) (s t : State) → Alike C s t → Alike C (attach P m a i s) (attach P n b i t)
  attach_alike i s t A = go (span_side C P K i)
    where
      go : Side C (with_anchor P i) → Alike C (attach P m a i s) (attach P n b i t)
      go (inside q h e j) = attach-near i q h e j s t A
      go (outside o) = alike_sym C _ _ (attach-far n b i o t _ (alike_sym C _ _ (attach-far m a i o s t A)))

  pub last_alike : Alike C (last_state P roster m a ka) (last_state P roster n b kb)
  unfolding last_state
  last_alike = fold_two (Alike C) _ _ (attachment_count P) (λ i l. attach_alike i) _ _ first_alike

  -- the attachments that were not skipped
  abbrev taken : Active → State → ℕ → Bool
  taken u s i = on u.attachments i && not (eqb (block_of s (anchor i)) 0)

  moved_at : (marks : ℕ) (u : Active) (i : ℕ) (s : State) (j : ℕ) → has (attach P marks u i s).moved j ≡ (has s.moved j || (taken u s i && eqb i j))
  unfolding attach move
  moved_at marks u i s j = go (taken u s i)
    where
      go : (x : Bool) → has (cond x (move i (union (block_of s (anchor i)) (movers marks i)) (movers marks i) s) s).moved j ≡ (has s.moved j || (x && eqb i j))
      go true = has-union s.moved (one i) j ∙ ap (λ (x : Bool). has s.moved j || x) (has_one i j)
      go false = sym (or-false (has s.moved j))

  abbrev Moved : State → State → Type 0
  Moved s t = Flag C (with_anchor P) (has s.moved) (has t.moved)

  attach-moved : (i : ℕ) (s t : State) → Alike C s t → Moved s t → Moved (attach P m a i s) (attach P n b i t)
  unfolding with_anchor
  attach-moved i s t A M j q h e = moved_at m a i s j ∙ ap₂ ◌||◌ (M j q h e) (go (eqb i j) refl) ∙ sym (moved_at n b i t j)
    where
      same : has (with_anchor P i) q ≡ true → taken a s i ≡ taken b t i
      same k =
          ap₂ (λ (x : Bool) (y : ℕ). x && not (eqb y 0)) (S.attachments i q k e)
          (A.same (anchor i) (at_single C (anchor i) (in_right C (attachment P i).members (one (anchor i)) (ins C (span_side C P K i) k e))))

      go : (x : Bool) → eqb i j ≡ x → (taken a s i && x) ≡ (taken b t i && x)
      go true z = ap (λ (y : Bool). y && true) (same (subst (λ (k : ℕ). has (with_anchor P k) q ≡ true) (sym (eqb-true i j z)) h))
      go false z = and-false (taken a s i) ∙ sym (and-false (taken b t i))

  pub last-moved : Flag C (with_anchor P) (has (last_state P roster m a ka).moved) (has (last_state P roster n b kb).moved)
  unfolding last_state first_state
  last-moved =
      (fold_two (λ s t. Alike C s t × Moved s t) (attach P m a) (attach P n b) (attachment_count P)
      (λ i l s t r. (attach_alike i s t r.0, attach-moved i s t r.0 r.1)) _ _ (first_alike, λ j q h e. refl)).1

-- ---- step 8

module _ (C : ℕ → Bool) (P : Plan) (K : Uncrossed C P) (a b : Active) (S : Same C P a b) where
  pub barred-agree : (x y : ℕ) → Agree C x y → Agree C (barred_by P a x) (barred_by P b y)
  unfolding barred_by
  barred-agree x y h =
      union-agree C (bar_count P) _ _ (λ i l. agree_twin C (twin_only C (bar_side C P K i)
      (λ q k e. ap₂ (λ (s t : Bool). s && not t) (S.bars i q k e) (subset-near C (ins C (bar_side C P K i) k e) h))))

  pub excluded-agree : Agree C (excluded_by P a) (excluded_by P b)
  unfolding excluded_by
  excluded-agree = union-agree C (status_count P) _ _ (λ i l. agree_twin C (twin_only C (single_side C (status P i).person) (S.statuses i)))
