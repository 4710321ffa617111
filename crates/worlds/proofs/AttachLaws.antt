-- Step 7 as the code goes: which attachments are not skipped, whom they move, and the blocks that are left.
use mathlib.Core.Path.{◌≡◌, refl, sym, ap, ap₂, ◌∙◌}
use mathlib.Core.Bool.{Bool, true, false, not, cond, ◌&&◌, ◌||◌, and-true, and-false, or-false, true≢false}
use mathlib.Core.Logic.{⊎_elim}
use mathlib.Core.List.{List, [], ◌∷◌}
use Prim.Native.Nat.{ℕ, zero, suc, ◌+◌, ◌/◌, ◌%◌, ◌^◌, ◌≤◌, ◌<◌, zero-le}
use native.Mathlib.Nat.{not-suc-le-zero, le_of_suc-le-suc, add-zero, zero-add}
use native.Mathlib.Omega.{arith}
use lib.Arith.{lt-one}
use lib.Dec.{eqb, ltb}
use borrow.Author.Tests.{eqb-true, eqb-false, eq-eqb, ne_eqb, lt-ltb, le-ltb}
use Rattle.sets.specs.paper.Sets.{odd, has, one, union, meet, minus, disjoint, meets, subset, lowest, when, members, members_from, all_of, union_of, fold_below}
use Rattle.records.specs.paper.Plan.{Plan}
use Rattle.sets.proofs.SetLaws.{Within, within-refl, thru, ext, empty, in_meet, of_meet, within-subset, one_lt, trailing_member, apart, meeting, has-zero, has-suc, has-none, has_one, has-union, has-minus, antisym, in_union_l, in_union_r, of_union, in_minus, of_minus, subset-true, and_parts, lt_or_le}
use Rattle.sets.proofs.Closing.{in_one}
use Rattle.sets.proofs.BelowLaws.{fold_keeps}
use Rattle.sets.proofs.MemberLaws.{members-same}
use Rattle.expressions.specs.paper.Rules.{attachment_count, attachment, rule_persons}
use Rattle.expressions.specs.paper.Nodes.{on}
use Rattle.expressions.specs.paper.Variables.{Influence}
use Rattle.sets.proofs.UnionLaws.{none-union, union-none, union_go}
use Rattle.worlds.specs.paper.Active.{Active}
use Rattle.worlds.specs.paper.World.{State, Marks, marked, block_of, kept_cuts, first_state, move, attach, last_state, after_marks, world_of}
use Rattle.worlds.specs.code.Over.{entry}
use Rattle.worlds.specs.code.Tables.{row, Stands, TellsActive}
use Rattle.worlds.specs.code.Blocks.{Parted, MovedTo, start_of}
use Rattle.worlds.specs.declared.tables.Common.{Common}
use Rattle.worlds.specs.declared.tables.Active as masks
use Rattle.sets.proofs.TurnLaws.{members-none, union-has, has-union_of}
use Rattle.worlds.proofs.FirstBlocks.{Blocks, out_of_blocks, first-blocks}
use Rattle.worlds.proofs.Partition.{not_set, moved-block, cut_on, live_below, movers_live, attach-blocks}

-- ---- the change that the persons of two blocks get

-- what a person's block becomes
abbrev pub regrouped : ℕ → ℕ → ℕ → ℕ → ℕ
regrouped target movers p block = cond (has target p) target (minus block movers)

pub minus_twice : (a b : ℕ) → minus (minus a b) b ≡ minus a b
minus_twice a b =
    antisym (minus (minus a b) b) (minus a b) (record { at = λ p h. (of_minus (minus a b) b p h).0 })
    (record { at = λ p h. in_minus (minus a b) b p h (of_minus a b p h).1 })

pub regrouped_twice : (target movers p block : ℕ) → regrouped target movers p (regrouped target movers p block) ≡ regrouped target movers p block
regrouped_twice target movers p block = pick (has target p)
  where
    pick : (b : Bool) → cond b target (minus (cond b target (minus block movers)) movers) ≡ cond b target (minus block movers)
    pick true = refl
    pick false = minus_twice block movers

-- ---- the movers come into the anchor's block

module _ (live anchor block movers : ℕ) (before : List ℕ) (B : Parted live before) (is : block ≡ entry before anchor) (inside : subset movers live ≡ true) where
  abbrev target : ℕ
  target = union block movers

  -- nobody of the target, and no mover in the block: it stays as it is
  stays : (p : ℕ) → has target p ≡ false → ((q : ℕ) → has (entry before p) q ≡ true → has movers q ≡ true → ⊥) → regrouped target movers p (entry before p) ≡ entry before p
  stays p e none =
      ap (λ (b : Bool). cond b target (minus (entry before p) movers)) e
      ∙ antisym (minus (entry before p) movers) (entry before p) (record { at = λ q h. (of_minus (entry before p) movers q h).0 })
      (record { at = λ q h. in_minus (entry before p) movers q h (not_set (has movers q) (none q h)) })

  -- a mover in a block is in the block of everybody there
  shared : (p q : ℕ) → has (entry before p) q ≡ true → has (entry before q) p ≡ true
  shared p q h = ap (λ (x : ℕ). has x p) (B.agreed p q h) ∙ B.self p (B.owner p q h)

  -- the blocks that the movers are in hold everybody whose block changes
  pub moved_apart : (left : ℕ) → movers < 2 ^ 64 → left ≡ union_of (entry before) (members movers)
      → (p : ℕ) → cond (has (union block left) p) (regrouped (union block movers) movers p (entry before p)) (entry before p) ≡ regrouped (union block movers) movers p (entry before p)
  moved_apart left fits e p = pick (has (union block left) p) refl
    where
      found : (q : ℕ) → has movers q ≡ true → has (entry before q) p ≡ true → has (union block left) p ≡ true
      found q h k = (in_union_r block left).at p (ap (λ (x : ℕ). has x p) e ∙ has-union_of (entry before) movers q p fits h k)

      out : has (union block left) p ≡ false → has target p ≡ true → ⊥
      out n h =
          ⊎_elim (λ k. true≢false (sym ((in_union_l block left).at p k) ∙ n))
          (λ k. true≢false (sym (found p k (B.self p ((subset-true movers live inside).at p k))) ∙ n)) (of_union block movers p h)

      pick : (b : Bool) → has (union block left) p ≡ b → cond b (regrouped target movers p (entry before p)) (entry before p) ≡ regrouped target movers p (entry before p)
      pick true n = refl
      pick false n = sym (stays p (not_set (has target p) (out n)) (λ q h k. true≢false (sym (found q k (shared p q h)) ∙ n)))

  -- where all movers are in the block nothing changes
  pub moved_already : subset movers block ≡ true → (p : ℕ) → entry before p ≡ regrouped (union block movers) movers p (entry before p)
  moved_already here p = pick (has target p) refl
    where
      whole : target ≡ block
      whole =
          antisym target block
          (record { at = λ q h. ⊎_elim (λ k. k) (λ k. (subset-true movers block here).at q k) (of_union block movers q h) })
          (in_union_l block movers)

      -- who shares a block with one of this block has this block
      mine : (q : ℕ) → has block q ≡ true → entry before q ≡ block
      mine q h = B.agreed anchor q (ap (λ (x : ℕ). has x q) (sym is) ∙ h) ∙ sym is

      pick : (b : Bool) → has target p ≡ b → entry before p ≡ regrouped target movers p (entry before p)
      pick true e = mine p (ap (λ (x : ℕ). has x p) (sym whole) ∙ e) ∙ sym whole ∙ ap (λ (b : Bool). cond b target (minus (entry before p) movers)) (sym e)
      pick false e =
          sym (stays p e (λ q h k.
          let b = (subset-true movers block here).at q k in
          true≢false (sym (ap (λ (x : ℕ). has x p) (whole ∙ sym (mine q b)) ∙ shared p q h) ∙ e)))

-- ---- a run over the numbers below n, over those alone that change something

-- one application after another
unfoldable pub over : {A : Type 0} → (ℕ → A → A) → List ℕ → A → A
over f [] s = s
over f (i ∷ is) s = over f is (f i s)

pub over_first : {A : Type 0} (f : ℕ → A → A) (xs : List ℕ) (i : ℕ) (ys : List ℕ) (s : A) → xs ≡ i ∷ ys → over f xs s ≡ over f ys (f i s)
unfolding over
over_first f xs i ys s e = ap (λ (zs : List ℕ). over f zs s) e

pub over_none : {A : Type 0} (f : ℕ → A → A) (xs : List ℕ) (s : A) → xs ≡ [] → over f xs s ≡ s
unfolding over
over_none f xs s e = ap (λ (zs : List ℕ). over f zs s) e

-- the first of the numbers first
fold_first : {A : Type 0} (n : ℕ) (g : ℕ → A → A) (s : A) → fold_below (suc n) g s ≡ fold_below n (λ j. g (suc j)) (g 0 s)
unfolding fold_below
fold_first zero g s = refl
fold_first (suc n) g s = ap (g (suc n)) (fold_first n g s)

module _ {A : Type 0} (Q : A → Type 0) (f : ℕ → A → A) (keeps : (i : ℕ) (s : A) → Q s → Q (f i s)) where
  fold_still : (n : ℕ) (g : ℕ → A → A) → ((j : ℕ) (s : A) → Q s → g j s ≡ s) → (s : A) → Q s → fold_below n g s ≡ s
  unfolding fold_below
  fold_still zero g still s q = refl
  fold_still (suc n) g still s q = ap (g n) (fold_still n g still s q) ∙ still n s q

  fold_from : (k n p m : ℕ) (g : ℕ → A → A) → m < 2 ^ k → ((j : ℕ) (s : A) → g j s ≡ f (p + j) s) → ((j : ℕ) → has m j ≡ true → j < n)
      → ((j : ℕ) → has m j ≡ false → (s : A) → Q s → g j s ≡ s) → (s : A) → Q s → fold_below n g s ≡ over f (members_from k p m) s
  unfolding members_from over fold_below
  fold_from zero n p m g h is low still s q = fold_still n g (λ j. still j (ap (λ (x : ℕ). has x j) (lt-one h) ∙ has-none j)) s q
  fold_from (suc k) zero p m g h is low still s q =
      pick (m % 2) refl (fold_from k zero (suc p) (m / 2) (λ j. g (suc j)) (omega arith) (λ j t. is (suc j) t ∙ ap (λ (x : ℕ). f x t) (shift j))
      (λ j e. absurd (not-suc-le-zero (low (suc j) (has-suc m j ∙ e)))) (λ j e. still (suc j) (has-suc m j ∙ e)) s q)
    where
      shift : (j : ℕ) → p + suc j ≡ suc p + j
      shift j = omega arith

      pick : (d : ℕ) → m % 2 ≡ d → s ≡ over f (members_from k (suc p) (m / 2)) s → s ≡ over f (when (m % 2) p (members_from k (suc p) (m / 2))) s
      pick zero e r = r ∙ ap (λ (d : ℕ). over f (when d p (members_from k (suc p) (m / 2))) s) (sym e)
      pick (suc d) e r = absurd (not-suc-le-zero (low 0 (has-zero m ∙ ap odd e)))
  fold_from (suc k) (suc n) p m g h is low still s q =
      fold_first n g s ∙ pick (m % 2) refl (fold_from k n (suc p) (m / 2) (λ j. g (suc j)) (omega arith) (λ j t. is (suc j) t ∙ ap (λ (x : ℕ). f x t) (shift j))
      (λ j e. le_of_suc-le-suc (low (suc j) (has-suc m j ∙ e))) (λ j e. still (suc j) (has-suc m j ∙ e)))
    where
      rest : List ℕ
      rest = members_from k (suc p) (m / 2)

      shift : (j : ℕ) → p + suc j ≡ suc p + j
      shift j = omega arith

      pick : (d : ℕ) → m % 2 ≡ d → ((t : A) → Q t → fold_below n (λ j. g (suc j)) t ≡ over f rest t) → fold_below n (λ j. g (suc j)) (g 0 s) ≡ over f (when (m % 2) p rest) s
      pick zero e r =
          ap (fold_below n (λ j. g (suc j))) (still 0 (has-zero m ∙ ap odd e) s q) ∙ r s q ∙ ap (λ (d : ℕ). over f (when d p rest) s) (sym e)
      pick (suc d) e r =
          ap (fold_below n (λ j. g (suc j))) (is 0 s ∙ ap (λ (x : ℕ). f x s) (add-zero p)) ∙ r (f p s) (keeps p s q) ∙ ap (λ (d : ℕ). over f (when d p rest) s) (sym e)

  -- A RUN over the numbers below n is one over the set m of them, if the others change nothing
  pub run_over : (n m : ℕ) → m < 2 ^ 64 → ((j : ℕ) → has m j ≡ true → j < n) → ((j : ℕ) → has m j ≡ false → (s : A) → Q s → f j s ≡ s)
      → (s : A) → Q s → fold_below n f s ≡ over f (members m) s
  unfolding members
  run_over n m h low still s q = fold_from 64 n 0 m f h (λ j t. ap (λ (x : ℕ). f x t) (sym (zero-add j))) low still s q

-- ---- what an attachment does, by who is live

-- it is not skipped
abbrev pub goes : Plan → ℕ → Active → ℕ → Bool
goes P live a i = on a.attachments i && has live (attachment P i).anchor

abbrev pub movers_of : Plan → ℕ → ℕ → ℕ
movers_of P marks i = minus (attachment P i).members marks

abbrev pub moving : Plan → ℕ → ℕ → State → State
moving P marks i s = move i (union (block_of s (attachment P i).anchor) (movers_of P marks i)) (movers_of P marks i) s

-- whoever is live is in a block, and nobody else
pub in_block_lem : (live : ℕ) (s : State) → Blocks live s → (p : ℕ) → not (eqb (block_of s p) 0) ≡ has live p
in_block_lem live s B p = pick (has live p) refl
  where
    pick : (b : Bool) → has live p ≡ b → not (eqb (block_of s p) 0) ≡ has live p
    pick true e = ap not (ne_eqb (block_of s p) 0 (λ z. true≢false (sym (B.self p e) ∙ ap (λ (x : ℕ). has x p) z ∙ has-none p))) ∙ sym e
    pick false e = ap not (eq-eqb (block_of s p) 0 (out_of_blocks live s B p e)) ∙ sym e

pub attach_goes : (P : Plan) (live marks : ℕ) (a : Active) (i : ℕ) (s : State) → Blocks live s
    → attach P marks a i s ≡ cond (goes P live a i) (moving P marks i s) s
unfolding attach
attach_goes P live marks a i s B =
    ap (λ (b : Bool). cond (on a.attachments i && b) (moving P marks i s) s) (in_block_lem live s B (attachment P i).anchor)

-- the blocks of the code's table are those of the state
pub parted : (live : ℕ) (s : State) (blocks : List ℕ) → Blocks live s → ((p : ℕ) → entry blocks p ≡ block_of s p) → Parted live blocks
parted live s blocks B e = record {
  self = λ p h. at p p ∙ B.self p h;
  owner = λ p q h. B.owner p q (sym (at p q) ∙ h);
  alive = λ p q h. B.alive p q (sym (at p q) ∙ h);
  agreed = λ p q h. e q ∙ B.agreed p q (sym (at p q) ∙ h) ∙ sym (e p);
}
  where
    at : (p q : ℕ) → has (entry blocks p) q ≡ has (block_of s p) q
    at p q = ap (λ (x : ℕ). has x q) (e p)

-- ---- all of them

ltb-suc : (i n : ℕ) → ltb i (suc n) ≡ (ltb i n || eqb n i)
ltb-suc i n = ⊎_elim below above (lt_or_le i n)
  where
    below : i < n → ltb i (suc n) ≡ (ltb i n || eqb n i)
    below l = lt-ltb i (suc n) (omega arith) ∙ sym (ap (λ (b : Bool). b || eqb n i) (lt-ltb i n l))

    same : n ≤ i → (b : Bool) → eqb n i ≡ b → ltb i (suc n) ≡ b
    same l true e = let z = eqb-true n i e in lt-ltb i (suc n) (omega arith)
    same l false e = let z = eqb-false n i e in le-ltb i (suc n) (⊎_elim (λ h. h) (λ h. absurd (z (omega arith))) (lt_or_le n i))

    above : n ≤ i → ltb i (suc n) ≡ (ltb i n || eqb n i)
    above l = same l (eqb n i) refl ∙ sym (ap (λ (b : Bool). b || eqb n i) (le-ltb i n l))

-- one number more, where the test at it is gn
one_more : (x l g gn e : Bool) → (e ≡ true → g ≡ gn) → ((x || (l && g)) || (gn && e)) ≡ (x || ((l || e) && g))
one_more true l g gn e h = refl
one_more false true true gn e h = refl
one_more false true false gn true h = ap (λ (b : Bool). b && true) (sym (h refl))
one_more false true false gn false h = and-false gn
one_more false false g gn true h = and-true gn ∙ sym (h refl)
one_more false false g gn false h = and-false gn

minus-union : (a b c : ℕ) → minus (union a b) c ≡ union (minus a c) (minus b c)
minus-union a b c = ext (minus (union a b) c) (union (minus a c) (minus b c)) (λ p.
    has-minus (union a b) c p ∙ ap (λ (x : Bool). x && not (has c p)) (has-union a b p) ∙ spread (has a p) (has b p) (not (has c p))
    ∙ sym (has-union (minus a c) (minus b c) p ∙ ap₂ ◌||◌ (has-minus a c p) (has-minus b c p)))
  where
    spread : (x y z : Bool) → ((x || y) && z) ≡ ((x && z) || (y && z))
    spread true y true = refl
    spread true y false = sym (and-false y)
    spread false y z = refl

pub union-minus : (g : ℕ → ℕ) (c : ℕ) (xs : List ℕ) → union_of (λ i. minus (g i) c) xs ≡ minus (union_of g xs) c
unfolding union_of
union-minus g c [] = sym (empty (minus 0 c) (λ p h. true≢false (sym (of_minus 0 c p h).0 ∙ has-none p)))
union-minus g c (x ∷ xs) = ap (union (minus (g x) c)) (union-minus g c xs) ∙ sym (minus-union (g x) (union_of g xs) c)

-- unions over a set of what agrees there
pub union-same : (f g : ℕ → ℕ) (m : ℕ) → m < 2 ^ 64 → ((i : ℕ) → has m i ≡ true → f i ≡ g i) → union_of f (members m) ≡ union_of g (members m)
union-same f g m h e = antisym (union_of f (members m)) (union_of g (members m)) (part f g e) (part g f (λ i k. sym (e i k)))
  where
    part : (f g : ℕ → ℕ) → ((i : ℕ) → has m i ≡ true → f i ≡ g i) → Within (union_of f (members m)) (union_of g (members m))
    part f g e = record {
      at = λ q k.
          let r = union-has f m q h k in
          has-union_of g m r.0 q h r.1 (ap (λ (x : ℕ). has x q) (sym (e r.0 r.1)) ∙ r.2);
    }

all_true : (xs : List ℕ) → all_of (λ (q : ℕ). true) xs ≡ true
unfolding all_of
all_true [] = refl
all_true (x ∷ xs) = all_true xs

module _ (P : Plan) (roster : ℕ) (named : subset (rule_persons P) roster ≡ true) (fits : roster < 2 ^ 64) (a : Active) (m : Marks) where
  abbrev unmarked : ℕ
  unmarked = minus roster (marked m)

  abbrev step : ℕ → State → State
  step = attach P (marked m) a

  -- which of the attachments below n are not skipped
  pub fold_moved : (n : ℕ) (s : State) → Blocks (minus roster (marked m)) s → (i : ℕ)
      → has (fold_below n (attach P (marked m) a) s).moved i ≡ (has s.moved i || (ltb i n && goes P (minus roster (marked m)) a i))
  unfolding fold_below move
  fold_moved zero s B i = sym (ap (λ (b : Bool). has s.moved i || (b && goes P unmarked a i)) (le-ltb i 0 zero-le) ∙ or-false (has s.moved i))
  fold_moved (suc n) s B i =
      ap (λ (u : State). has u.moved i) (attach_goes P unmarked (marked m) a n t (fold_keeps (Blocks unmarked) step (attach-blocks P roster named fits a m) n s B))
      ∙ by (goes P unmarked a n) (fold_moved n s B i) ∙ one_more (has s.moved i) (ltb i n) (goes P unmarked a i) (goes P unmarked a n) (eqb n i) (λ e. ap (goes P unmarked a) (sym (eqb-true n i e)))
      ∙ ap (λ (b : Bool). has s.moved i || (b && goes P unmarked a i)) (sym (ltb-suc i n))
    where
      t : State
      t = fold_below n step s

      by : (b : Bool) → has t.moved i ≡ (has s.moved i || (ltb i n && goes P unmarked a i))
          → has (cond b (moving P (marked m) n t) t).moved i ≡ ((has s.moved i || (ltb i n && goes P unmarked a i)) || (b && eqb n i))
      by true before = has-union t.moved (one n) i ∙ ap₂ ◌||◌ before (has_one n i)
      by false before = before ∙ sym (or-false (has s.moved i || (ltb i n && goes P unmarked a i)))

  -- whom a run over attachments that are not skipped attaches
  over-attached : (xs : List ℕ) (s : State) → Blocks unmarked s → all_of (goes P unmarked a) xs ≡ true
      → (over step xs s).attached ≡ union s.attached (union_of (movers_of P (marked m)) xs)
  unfolding over union_of all_of move
  over-attached [] s B all = sym (union-none s.attached)
  over-attached (x ∷ xs) s B all =
      let both = and_parts (goes P unmarked a x) (all_of (goes P unmarked a) xs) all in
      let now : attach P (marked m) a x s ≡ moving P (marked m) x s =
      attach_goes P unmarked (marked m) a x s B ∙ ap (λ (b : Bool). cond b (moving P (marked m) x s) s) both.0 in
      over-attached xs (step x s) (attach-blocks P roster named fits a m x s B) both.1
      ∙ ap (λ (u : State). union u.attached (union_of (movers_of P (marked m)) xs)) now ∙ union_go (movers_of P (marked m)) s.attached x xs

-- ---- the world's attachments

-- the marked persons of a world, and those of the roster that are not
abbrev pub marks_in_lem : Plan → ℕ → Influence → Active → ℕ
marks_in_lem P roster I a = marked (world_of P roster I a).marks

abbrev pub live_in : Plan → ℕ → Influence → Active → ℕ
live_in P roster I a = minus roster (marks_in_lem P roster I a)

-- one person meets a set
pub one-meets : (x b : ℕ) → meets (one x) b ≡ has b x
unfolding meets
one-meets x b = pick (has b x) refl
  where
    pick : (c : Bool) → has b x ≡ c → not (disjoint (one x) b) ≡ has b x
    pick true e = ap not (meeting (one x) b x (in_one x) e) ∙ sym e
    pick false e = ap not (apart (one x) b (λ p h k. true≢false (sym k ∙ ap (has b) (sym (eqb-true x p (sym (has_one x p) ∙ h))) ∙ e))) ∙ sym e

module _ (P : Plan) (I : Influence) (k : Common) (t : List (List ℕ)) (a : Active) (S : Stands P I k t)
    (below : (i : ℕ) → on a.attachments i ≡ true → i < attachment_count P) where
  abbrev marks : ℕ
  marks = marks_in_lem P k.roster I a

  abbrev placed : ℕ
  placed = live_in P k.roster I a

  abbrev start : State
  start = start_of P k.roster I a

  pub start_blocks : Blocks (live_in P k.roster I a) (start_of P k.roster I a)
  unfolding world_of after_marks start_of
  start_blocks = first-blocks P k.roster marks a (kept_cuts P a) S.roster (cut_on P k.roster S.named)

  state_is : (world_of P k.roster I a).state ≡ fold_below (attachment_count P) (attach P marks a) start
  unfolding world_of after_marks last_state start_of
  state_is = refl

  start_moved : start.moved ≡ 0
  unfolding start_of first_state
  start_moved = refl

  start_attached : start.attached ≡ 0
  unfolding start_of first_state
  start_attached = refl

  goes_below : (i : ℕ) → goes P placed a i ≡ true → i < attachment_count P
  goes_below i e = below i (and_parts (on a.attachments i) (has placed (attachment P i).anchor) e).0

  -- WHICH ATTACHMENTS ARE NOT SKIPPED: the active ones whose anchor is on the roster and not marked
  pub moved_is : (i : ℕ) → has (world_of P k.roster I a).state.moved i ≡ goes P (live_in P k.roster I a) a i
  moved_is i =
      ap (λ (s : State). has s.moved i) state_is
      ∙ fold_moved P k.roster S.named S.roster a (world_of P k.roster I a).marks (attachment_count P) start start_blocks i
      ∙ ap (λ (b : Bool). b || (ltb i (attachment_count P) && goes P placed a i)) (ap (λ (x : ℕ). has x i) start_moved ∙ has-none i)
      ∙ pick (goes P placed a i) refl
    where
      pick : (b : Bool) → goes P placed a i ≡ b → (ltb i (attachment_count P) && goes P placed a i) ≡ goes P placed a i
      pick true e = ap (λ (b : Bool). b && goes P placed a i) (lt-ltb i (attachment_count P) (goes_below i e))
      pick false e = ap (λ (b : Bool). ltb i (attachment_count P) && b) e ∙ and-false (ltb i (attachment_count P)) ∙ sym e

  module _ (moved : ℕ) (fits : moved < 2 ^ 64) (is : moved ≡ (world_of P k.roster I a).state.moved) where
    pub moved_goes : (i : ℕ) → has moved i ≡ goes P (live_in P k.roster I a) a i
    moved_goes i = ap (λ (x : ℕ). has x i) is ∙ moved_is i

    -- THE STATE is what these attachments make of the start, one after another
    pub state_run : (world_of P k.roster I a).state ≡ over (attach P (marks_in_lem P k.roster I a) a) (members moved) (start_of P k.roster I a)
    state_run =
        state_is
        ∙ run_over (Blocks placed) (attach P marks a) (attach-blocks P k.roster S.named S.roster a (world_of P k.roster I a).marks) (attachment_count P) moved fits
        (λ j e. goes_below j (sym (moved_goes j) ∙ e))
        (λ j e s B. attach_goes P placed marks a j s B ∙ ap (λ (b : Bool). cond b (moving P marks j s) s) (sym (moved_goes j) ∙ e)) start start_blocks

    -- WHO IS ATTACHED
    pub attached_is : (world_of P k.roster I a).state.attached ≡ minus (union_of (λ i. (attachment P i).members) (members moved)) (marks_in_lem P k.roster I a)
    attached_is =
        ap (λ (s : State). s.attached) state_run
        ∙ over-attached P k.roster S.named S.roster a (world_of P k.roster I a).marks (members moved) start start_blocks
        (members-same moved (goes P placed a) (λ q. true) (λ q e. sym (moved_goes q) ∙ e) ∙ all_true (members moved))
        ∙ ap (λ (x : ℕ). union x (union_of (movers_of P marks) (members moved))) start_attached ∙ none-union (union_of (movers_of P marks) (members moved))
        ∙ union-minus (λ i. (attachment P i).members) marks (members moved)

    -- the same by the row of the movers
    pub attached-rows : minus (union_of (row t 11) (members moved)) (marks_in_lem P k.roster I a) ≡ (world_of P k.roster I a).state.attached
    attached-rows =
        ap (λ (x : ℕ). minus x marks) (union-same (row t 11) (λ i. (attachment P i).members) moved fits (λ i e. S.movers i (goes_below i (sym (moved_goes i) ∙ e))))
        ∙ sym attached_is

-- the set that goes by the rows of the anchors is the one of the world
pub moved-rows : (P : Plan) (I : Influence) (k : Common) (t : List (List ℕ)) (a : Active) (f : masks.Active) → Stands P I k t → TellsActive P a f → (moved : ℕ)
    → ((i : ℕ) → has moved i ≡ (has f.attachments i && meets (row t 12 i) (live_in P k.roster I a)))
    → moved ≡ (world_of P k.roster I a).state.moved
moved-rows P I k t a f S T moved e = ext moved (world_of P k.roster I a).state.moved (λ i.
    e i ∙ ap (λ (b : Bool). b && meets (row t 12 i) live) (T.attachments i) ∙ pick i (on a.attachments i) refl ∙ sym (moved_is P I k t a S T.attachments_below i))
  where
    live : ℕ
    live = live_in P k.roster I a

    pick : (i : ℕ) (b : Bool) → on a.attachments i ≡ b → (on a.attachments i && meets (row t 12 i) live) ≡ goes P live a i
    pick i true e =
        ap (λ (b : Bool). on a.attachments i && b)
        (ap (λ (x : ℕ). meets x live) (S.anchors i (T.attachments_below i e)) ∙ one-meets (attachment P i).anchor live)
    pick i false e = ap (λ (b : Bool). b && meets (row t 12 i) live) e ∙ sym (ap (λ (b : Bool). b && has live (attachment P i).anchor) e)

-- both from what the code settles: the marks, and the set by the rows
module _ (P : Plan) (I : Influence) (k : Common) (t : List (List ℕ)) (a : Active) (f : masks.Active) (S : Stands P I k t) (T : TellsActive P a f) (marked_by moved : ℕ)
    (same : marked_by ≡ marks_in_lem P k.roster I a)
    (met : (i : ℕ) → has moved i ≡ (has f.attachments i && meets (row t 12 i) (minus k.roster marked_by))) where
  pub settled_moved : moved ≡ (world_of P k.roster I a).state.moved
  settled_moved = moved-rows P I k t a f S T moved (λ i. met i ∙ ap (λ (x : ℕ). has f.attachments i && meets (row t 12 i) (minus k.roster x)) same)

  pub settled_attached : moved < 2 ^ 64 → minus (union_of (row t 11) (members moved)) marked_by ≡ (world_of P k.roster I a).state.attached
  settled_attached fits = ap (minus (union_of (row t 11) (members moved))) same ∙ attached-rows P I k t a S T.attachments_below moved fits settled_moved

-- ---- a loop over them

-- what is given of the step
pub record Attaching (P : Plan) (I : Influence) (k : Common) (a : Active) (t : List (List ℕ)) (moved placed : ℕ) (first : List ℕ) : Type 0 where
  pub stands : Stands P I k t
  pub is : moved ≡ (world_of P k.roster I a).state.moved
  pub below : (i : ℕ) → on a.attachments i ≡ true → i < attachment_count P
  pub unmarked : placed ≡ live_in P k.roster I a
  pub begun : (p : ℕ) → entry first p ≡ block_of (start_of P k.roster I a) p

pub attaching : (P : Plan) (I : Influence) (k : Common) (a : Active) {t : List (List ℕ)} {moved placed : ℕ} {first : List ℕ} → Stands P I k t → moved ≡ (world_of P k.roster I a).state.moved
    → ((i : ℕ) → on a.attachments i ≡ true → i < attachment_count P) → placed ≡ live_in P k.roster I a → ((p : ℕ) → entry first p ≡ block_of (start_of P k.roster I a) p)
    → Attaching P I k a t moved placed first
attaching P I k a stands is below unmarked begun = record { stands = stands; is = is; below = below; unmarked = unmarked; begun = begun }

-- the blocks are those of a state from which the attachments left, m, lead to the world's
pub record Reached (P : Plan) (I : Influence) (k : Common) (a : Active) (moved m : ℕ) (blocks : List ℕ) : Type 0 where
  pub state : State
  pub parts : Blocks (live_in P k.roster I a) state
  pub entries : (p : ℕ) → entry blocks p ≡ block_of state p
  pub inside : Within m moved
  pub left : over (attach P (marks_in_lem P k.roster I a) a) (members m) state ≡ (world_of P k.roster I a).state

-- one person of a set
pub meet_one : (x b : ℕ) → has b x ≡ true → meet (one x) b ≡ one x
meet_one x b e =
    antisym (meet (one x) b) (one x) (record { at = λ p h. (of_meet (one x) b p h).0 })
    (record { at = λ p h. in_meet (one x) b p h (ap (has b) (sym (eqb-true x p (sym (has_one x p) ∙ h))) ∙ e) })

one-some : (x : ℕ) → one x ≡ 0 → ⊥
one-some x e = true≢false (sym (in_one x) ∙ ap (λ (m : ℕ). has m x) e ∙ has-none x)

pub lowest-one : (x : ℕ) → x < 64 → lowest (one x) ≡ x
unfolding lowest
lowest-one x l = sym (eqb-true x (lowest (one x)) (sym (has_one x (lowest (one x))) ∙ trailing_member 64 (one x) (one_lt 64 x l) (one-some x)))

module _ (P : Plan) (I : Influence) (k : Common) (a : Active) (t : List (List ℕ)) (moved placed : ℕ) (first : List ℕ) (fits : moved < 2 ^ 64)
    (T : Attaching P I k a t moved placed first) where
  abbrev unplaced : ℕ
  unplaced = marks_in_lem P k.roster I a

  abbrev live : ℕ
  live = live_in P k.roster I a

  pub reached_start : Reached P I k a moved moved first
  reached_start = record {
    state = start_of P k.roster I a;
    parts = start_blocks P I k t a T.stands T.below;
    entries = T.begun;
    inside = within-refl moved;
    left = sym (state_run P I k t a T.stands T.below moved fits T.is);
  }

  pub reached_end : (m : ℕ) (blocks : List ℕ) → m ≡ 0 → Reached P I k a moved m blocks → (p : ℕ) → entry blocks p ≡ block_of (world_of P k.roster I a).state p
  reached_end m blocks e R p = R.entries p ∙ ap (λ (s : State). block_of s p) (sym (over_none (attach P unplaced a) (members m) R.state (members-none m e)) ∙ R.left)

  module _ (m i : ℕ) (blocks : List ℕ) (R : Reached P I k a moved m blocks) (here : has m i ≡ true) where
    goes_here : (on a.attachments i ≡ true) × (has live (attachment P i).anchor ≡ true)
    goes_here =
        and_parts (on a.attachments i) (has live (attachment P i).anchor)
        (sym (moved_goes P I k t a T.stands T.below moved fits T.is i) ∙ R.inside.at i here)

    anchor_is : meet (row t 12 i) placed ≡ one (attachment P i).anchor
    anchor_is =
        ap₂ meet (T.stands.anchors i (T.below i goes_here.0)) T.unmarked ∙ meet_one (attachment P i).anchor live goes_here.1

    -- the anchor is placed
    pub anchor-some : meet (row t 12 i) placed ≡ 0 → ⊥
    anchor-some e = one-some (attachment P i).anchor (sym anchor_is ∙ e)

    anchor-low : lowest (meet (row t 12 i) placed) ≡ (attachment P i).anchor
    anchor-low = ap lowest anchor_is ∙ lowest-one (attachment P i).anchor (⊎_elim (λ l. l)
        (λ l. absurd (true≢false (sym goes_here.1 ∙ live_below P k.roster T.stands.named T.stands.roster a (world_of P k.roster I a).marks (attachment P i).anchor l)))
        (lt_or_le (attachment P i).anchor 64))

    movers_in : Within (movers_of P unplaced i) live
    movers_in = movers_live P k.roster T.stands.named T.stands.roster a (world_of P k.roster I a).marks i

    movers_is : meet (row t 11 i) placed ≡ movers_of P unplaced i
    movers_is =
        ap₂ meet (T.stands.movers i (T.below i goes_here.0)) T.unmarked
        ∙ antisym (meet (attachment P i).members live) (movers_of P unplaced i)
        (record {
          at = λ q h.
              let b = of_meet (attachment P i).members live q h in
              in_minus (attachment P i).members unplaced q b.0 (of_minus k.roster unplaced q b.1).1;
        })
        (record { at = λ q h. in_meet (attachment P i).members live q (of_minus (attachment P i).members unplaced q h).0 (movers_in.at q h) })

    -- ONE ATTACHMENT, lowest first
    pub reached-next : (r x : ℕ) (after : List ℕ) → Within r m → members m ≡ i ∷ members r → x ≡ lowest (meet (row t 12 i) placed)
        → MovedTo (entry blocks x) (meet (row t 11 i) placed) blocks after → Reached P I k a moved r after
    reached-next r x after less e at M = record {
      state = attach P unplaced a i R.state;
      parts = attach-blocks P k.roster T.stands.named T.stands.roster a (world_of P k.roster I a).marks i R.state R.parts;
      entries = λ p. M.at live x (parted live R.state blocks R.parts R.entries) refl inside p ∙ said p ∙ sym (then p);
      inside = thru less R.inside;
      left = sym (over_first (attach P unplaced a) (members m) i (members r) R.state e) ∙ R.left;
    }
      where
        s : State
        s = R.state

        inside : subset (meet (row t 11 i) placed) live ≡ true
        inside = ap (λ (y : ℕ). subset y live) movers_is ∙ within-subset (movers_of P unplaced i) live movers_in

        block : entry blocks x ≡ block_of s (attachment P i).anchor
        block = R.entries x ∙ ap (block_of s) (at ∙ anchor-low)

        -- as the code has it, and as the attachment does
        made : ℕ → ℕ → ℕ → ℕ → ℕ
        made b y old p = cond (has (union b y) p) (union b y) (minus old y)

        said : (p : ℕ) → made (entry blocks x) (meet (row t 11 i) placed) (entry blocks p) p ≡ made (block_of s (attachment P i).anchor) (movers_of P unplaced i) (block_of s p) p
        said p = ap₂ (λ (b y : ℕ). made b y (entry blocks p) p) block movers_is
            ∙ ap (λ (old : ℕ). made (block_of s (attachment P i).anchor) (movers_of P unplaced i) old p) (R.entries p)

        then : (p : ℕ) → block_of (attach P unplaced a i s) p ≡ made (block_of s (attachment P i).anchor) (movers_of P unplaced i) (block_of s p) p
        then p =
            ap (λ (u : State). block_of u p)
            (attach_goes P live unplaced a i s R.parts ∙ ap (λ (b : Bool). cond b (moving P unplaced i s) s) (ap₂ ◌&&◌ goes_here.0 goes_here.1))
            ∙ moved-block live (live_below P k.roster T.stands.named T.stands.roster a (world_of P k.roster I a).marks) i (attachment P i).anchor (movers_of P unplaced i)
            movers_in s R.parts p
