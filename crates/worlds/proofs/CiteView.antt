-- What the code gathers for a live person's block, with the person's own cuts, is what the view of one world cites.
use mathlib.Core.Path.{◌≡◌, refl, sym, ap, ap₂, ◌∙◌}
use mathlib.Core.Bool.{Bool, true, false, cond, not, ◌&&◌, true≢false}
use mathlib.Core.Logic.{◌⊎◌, inl, inr, ⊎_elim}
use mathlib.Core.List.{List, []}
use Prim.Native.Nat.{ℕ, ◌-◌, ◌^◌, ◌<◌}
use native.Mathlib.Nat.{lt_trans, lt_of_le_of_lt}
use native.Mathlib.Omega.{arith}
use lib.ListN.{get_or}
use lib.Dec.{eqb}
use lib.Bits.{bit_and}
use borrow.Author.Tests.{eqb-true, ne_eqb}
use Rattle.sets.specs.paper.Sets.{has, one, union, meet, minus, meets, subset, only, lowest, members, union_of, union_below}
use Rattle.records.specs.paper.Plan.{Plan}
use Rattle.records.specs.promises.Sound.{Person, SoundEdge, SoundAttachment}
use Rattle.sets.proofs.SetLaws.{has-none, has_one, empty, of_meet, in_minus, of_minus, in_union_l, in_union_r, of_union, union_lt, one_lt}
use Rattle.sets.proofs.Closing.{in_one}
use Rattle.sets.proofs.LoopLaws.{all_at}
use Rattle.sets.proofs.BelowLaws.{flag-set}
use Rattle.sets.proofs.Local.{which}
use Rattle.sets.proofs.UnionLaws.{none-union, union-none, union_assoc}
use Rattle.expressions.specs.paper.Rules.{edge_count, cut_count, attachment_count, bar_count, status_count, edge, attachment, bar, status, pair}
use Rattle.expressions.specs.paper.Nodes.{on}
use Rattle.expressions.specs.paper.Variables.{Influence}
use Rattle.worlds.specs.paper.Active as paper
use Rattle.worlds.specs.paper.World.{World, world_of, after_marks, marked, marks_of, block_of, kept_cuts, overlapping_cuts, standing, blocked_cut, applied_cuts}
use Rattle.worlds.specs.paper.View.{view, edge_citations, attachment_citations, bar_citations, status_citations, citations}
use Rattle.worlds.specs.code.Over.{entry}
use Rattle.worlds.specs.code.Tables.{row, Stands}
use Rattle.worlds.specs.code.Settled.{SettledAs}
use Rattle.worlds.specs.code.Blocks.{Parted}
use Rattle.worlds.specs.code.Citing.{CitesIn, far, through, own_of, CitedFor}
use Rattle.worlds.specs.declared.tables.Common.{Common}
use Rattle.worlds.specs.declared.tables.Settled.{Settled}
use Rattle.worlds.proofs.FirstBlocks.{Blocks}
use Rattle.worlds.proofs.Partition.{world_blocks}
use Rattle.sets.proofs.TurnLaws.{and_pred, and-less, members-next}
use Rattle.worlds.proofs.CiteLaws.{minus_le, lowest_in, lowest-below, filled, cites-both}
use Rattle.worlds.proofs.CiteTurns.{meets-sym, meets-none, far_other, far-same}
use Rattle.worlds.proofs.CiteRules.{only_none, only-both, union_comm, lowest-one, ends-inside, meets-person, rules-same, rules_all, no-members, unless_same}
use Rattle.worlds.proofs.CiteCuts.{own_cuts, end_cuts, cut_split}

-- ---- the two ends of an edge, lowest and far

module _ (s : ℕ) (fits : s < 2 ^ 64) where
  -- of a set of x and y with x lowest, the far one is y
  far_is : (x y : ℕ) → y < 64 → has s y ≡ true → ((q : ℕ) → has s q ≡ true → (q ≡ x) ⊎ (q ≡ y)) → lowest s ≡ x → far s ≡ y
  far_is x y l h two e = ⊎_elim same apart (which (eqb x y))
    where
      more : ℕ
      more = bit_and s (s - 1)

      filled_s : s ≡ 0 → ⊥
      filled_s z = true≢false (sym h ∙ ap (λ (m : ℕ). has m y) z ∙ has-none y)

      is : more ≡ minus s (one x)
      is = and_pred s fits filled_s ∙ ap (λ (z : ℕ). minus s (one z)) e

      -- who is left is y, and y is not x
      left : (q : ℕ) → has more q ≡ true → (q ≡ y) × (x ≡ q → ⊥)
      left q k =
          let t = of_minus s (one x) q (ap (λ (m : ℕ). has m q) (sym is) ∙ k) in
          let out : x ≡ q → ⊥ = λ z. true≢false (sym (in_one q) ∙ ap (λ (m : ℕ). has (one m) q) (sym z) ∙ t.1) in
          (⊎_elim (λ z. absurd (out (sym z))) (λ z. z) (two q t.0), out)

      same : eqb x y ≡ true → far s ≡ y
      same z =
          let xy = eqb-true x y z in
          sym (far-same s more y (members-next s fits filled_s) (empty more (λ q k. (left q k).1 (xy ∙ sym (left q k).0))) (sym xy ∙ sym e))

      apart : eqb x y ≡ false → far s ≡ y
      apart z =
          let here : has more y ≡ true = ap (λ (m : ℕ). has m y) is ∙ in_minus s (one x) y h (has_one x y ∙ z) in
          let low = lowest_in more (lowest-below more y here l) in
          sym (far_other s more y (members-next s fits filled_s) (lt_trans (and-less s filled_s) fits) (λ n. true≢false (sym here ∙ ap (λ (m : ℕ). has m y) n ∙ has-none y))
          (sym (left (lowest more) low).0))

ends_are : (l r : ℕ) → l < 64 → r < 64 → let s = union (one l) (one r) in ((lowest s ≡ l) × (far s ≡ r)) ⊎ ((lowest s ≡ r) × (far s ≡ l))
ends_are l r hl hr =
    ⊎_elim (λ z. inl (z, far_is s fits l r hr right two z)) (λ z. inr (z, far_is s fits r l hl left (λ q h. turned (two q h)) z)) (two (lowest s) (lowest_in s (lowest-below s l left hl)))
  where
    s : ℕ
    s = union (one l) (one r)

    fits : s < 2 ^ 64
    fits = union_lt 64 (one l) (one r) (one_lt 64 l hl) (one_lt 64 r hr)

    left : has s l ≡ true
    left = (in_union_l (one l) (one r)).at l (in_one l)

    right : has s r ≡ true
    right = (in_union_r (one l) (one r)).at r (in_one r)

    two : (q : ℕ) → has s q ≡ true → (q ≡ l) ⊎ (q ≡ r)
    two q h = ⊎_elim (λ x. inl (sym (eqb-true l q (sym (has_one l q) ∙ x)))) (λ x. inr (sym (eqb-true r q (sym (has_one r q) ∙ x)))) (of_union (one l) (one r) q h)

    turned : {A B : Type 0} → A ⊎ B → B ⊎ A
    turned (inl x) = inr x
    turned (inr x) = inl x

-- ---- the parts of a block's citations

swap : (x y z : Bool) → (x && (y && z)) ≡ (y && (x && z))
swap true y z = refl
swap false true z = refl
swap false false z = refl

meet-none : (a b : ℕ) → b ≡ 0 → meet a b ≡ 0
meet-none a b e = empty (meet a b) (λ q h. true≢false (sym (of_meet a b q h).1 ∙ ap (λ (m : ℕ). has m q) e ∙ has-none q))

-- the order in which the code joins the parts, and the paper's
regroup : (x e t a b s o : ℕ) → union (union x (union (union (union (union e t) a) b) s)) o ≡ union x (union e (union (union o t) (union a (union b s))))
regroup x e t a b s o = simp union_assoc (ap (λ (z : ℕ). union x (union e z)) (sym (union_comm o (union t (union a (union b s))) ∙ simp union_assoc)))

own-none : (t : List (List ℕ)) (m x : ℕ) → m ≡ 0 → own_of t m x ≡ 0
unfolding own_of
own-none t m x e = ap (λ (y : ℕ). own_of t y x) e ∙ no-members (λ c. only (has (row t 1 c) x) (row t 17 c))

module _ (P : Plan) (I : Influence) (k : Common) (t : List (List ℕ)) (a : paper.Active) (frozen : ℕ) (s : Settled) (S : Stands P I k t)
    (F : (e : ℕ) → has frozen e ≡ on a.frozen e) (L : (e : ℕ) → on a.frozen e ≡ true → e < edge_count P) (W : SettledAs P (world_of P k.roster I a) s) where
  abbrev w : World
  w = world_of P k.roster I a

  frozen_is : (e : ℕ) → has frozen e ≡ on w.active.frozen e
  unfolding world_of after_marks
  frozen_is e = F e

  frozen-below : (e : ℕ) → has frozen e ≡ true → e < edge_count P
  frozen-below e h = L e (sym (F e) ∙ h)

  applied-below : (c : ℕ) → on w.applied c ≡ true → c < cut_count P
  unfolding world_of after_marks applied_cuts
  applied-below c e =
      (flag-set (cut_count P) (λ c. standing (kept_cuts P a) (overlapping_cuts P (kept_cuts P a)) c && not (blocked_cut P a (kept_cuts P a) c)) c e).0

  edge-ends : (e : ℕ) → e < edge_count P → ((lowest (pair P e) ≡ (edge P e).left) × (far (pair P e) ≡ (edge P e).right)) ⊎ ((lowest (pair P e) ≡ (edge P e).right) × (far (pair P e) ≡ (edge P e).left))
  unfolding pair edge
  edge-ends e l = let h = all_at (SoundEdge P) P.edges _ e S.sound.edges l in ends_are (edge P e).left (edge P e).right h.left h.right

  pair_inside : (e b : ℕ) → subset (pair P e) b ≡ (has b (edge P e).left && has b (edge P e).right)
  unfolding pair
  pair_inside e b = ends-inside (edge P e).left (edge P e).right b

  edge-part : (b : ℕ) → union_of (λ e. only (meets (row t 0 e) b && subset (row t 0 e) b) (row t 16 e)) (members frozen) ≡ edge_citations P w b
  unfolding edge_citations
  edge-part b = rules-same (edge_count P) frozen _ _ S.sound.edge_limit frozen-below (λ i l.
      only-both (has frozen i) (meets (row t 0 i) b && subset (row t 0 i) b) (row t 16 i)
      ∙ ap₂ only (ap (λ (x : Bool). x && (meets (row t 0 i) b && subset (row t 0 i) b)) (frozen_is i)
      ∙ ap₂ (λ (y z : Bool). on w.active.frozen i && (y && z)) (ap (λ (x : ℕ). meets x b) (S.pairs i l) ∙ meets-sym (pair P i) b) (ap (λ (x : ℕ). subset x b) (S.pairs i l) ∙ pair_inside i b)
      ∙ swap (on w.active.frozen i) (meets b (pair P i)) (has b (edge P i).left && has b (edge P i).right)) (S.edge_cites i l))

  own-part : (x : ℕ) → own_of t s.applied x ≡ own_cuts P w x
  unfolding own_of
  own-part x = rules-same (cut_count P) s.applied _ _ (omega (arith, S.sound.cut_limit)) (λ c h. applied-below c (sym (W.applied c) ∙ h)) (λ c l.
      only-both (has s.applied c) (has (row t 1 c) x) (row t 17 c)
      ∙ ap₂ only (ap₂ ◌&&◌ (W.applied c) (ap (λ (m : ℕ). has m x) (S.members c l))) (S.cut_cites c l))

  through-part : (own : List ℕ) → ((x : ℕ) → entry own x ≡ own_of t s.applied x) → (b : ℕ)
      → through (get_or t 0 []) (cond (eqb s.applied 0) 0 frozen) (entry own) b ≡ union_below (edge_count P) (λ e. only (on w.active.frozen e) (end_cuts P w b e))
  unfolding through
  through-part own O b =
      unless_same s.applied frozen _ (λ z e. ap₂ union (nothing z (has b (lowest (row t 0 e))) (far (row t 0 e))) (nothing z (has b (far (row t 0 e))) (lowest (row t 0 e))) ∙ union-none 0)
      ∙ rules-same (edge_count P) frozen _ _ S.sound.edge_limit frozen-below (λ e l. ap₂ only (frozen_is e) (ends e l))
    where
      is : (x : ℕ) → entry own x ≡ own_cuts P w x
      is x = O x ∙ own-part x

      nothing : s.applied ≡ 0 → (y : Bool) (x : ℕ) → only y (entry own x) ≡ 0
      nothing z y x = ap (only y) (O x ∙ own-none t s.applied x z) ∙ only_none y

      by : ℕ → ℕ → ℕ
      by x y = union (only (has b x) (entry own y)) (only (has b y) (entry own x))

      both : (x y : ℕ) → by x y ≡ union (only (has b x) (own_cuts P w y)) (only (has b y) (own_cuts P w x))
      both x y = ap₂ (λ (u v : ℕ). union (only (has b x) u) (only (has b y) v)) (is y) (is x)

      ends : (e : ℕ) → e < edge_count P → by (lowest (row t 0 e)) (far (row t 0 e)) ≡ end_cuts P w b e
      ends e l =
          ap (λ (m : ℕ). by (lowest m) (far m)) (S.pairs e l)
          ∙ ⊎_elim (λ z. ap₂ by z.0 z.1 ∙ both (edge P e).left (edge P e).right)
          (λ z. ap₂ by z.0 z.1 ∙ both (edge P e).right (edge P e).left ∙ union_comm _ _) (edge-ends e l)

  anchor_at : (i : ℕ) → i < attachment_count P → Person (attachment P i).anchor
  unfolding attachment
  anchor_at i l = (all_at (SoundAttachment P) P.attachments _ i S.sound.attachments l).anchor

  attachment-part : (b : ℕ) → union_of (λ i. only (has b (lowest (row t 12 i)) && meets (row t 11 i) b) (row t 18 i)) (members k.attachments) ≡ attachment_citations P w b
  unfolding attachment_citations
  attachment-part b = rules_all (attachment_count P) k.attachments _ _ (omega (arith, S.sound.attachment_limit)) S.attachments (λ i l.
      ap₂ only (ap₂ ◌&&◌ (ap (has b) (ap lowest (S.anchors i l) ∙ lowest-one (attachment P i).anchor (anchor_at i l)))
      (ap (λ (x : ℕ). meets x b) (S.movers i l) ∙ meets-sym (attachment P i).members b)) (S.attachment_cites i l))

  bar-part : (m b : ℕ) → m ≡ minus s.barred s.excluded
      → union_of (λ i. only (meets (meet (row t 13 i) m) b) (row t 19 i)) (members (cond (eqb m 0) 0 k.bars)) ≡ bar_citations P w b
  unfolding bar_citations
  bar-part m b e =
      unless_same m k.bars _ (λ z i. ap (λ (x : Bool). only x (row t 19 i)) (meets-none (meet (row t 13 i) m) b (meet-none (row t 13 i) m z)))
      ∙ rules_all (bar_count P) k.bars _ _ (omega (arith, S.sound.bar_limit)) S.bars (λ i l.
      ap₂ only (ap₂ (λ (x y : ℕ). meets (meet x y) b) (S.barred i l) (e ∙ ap₂ minus W.barred W.excluded) ∙ meets-sym (meet (bar P i).members (minus w.barred w.excluded)) b) (S.bar_cites i l))

  status-part : (b : ℕ) → union_of (λ i. only (meets (meet (row t 14 i) s.excluded) b) (row t 20 i)) (members (cond (eqb s.excluded 0) 0 k.statuses)) ≡ status_citations P w b
  unfolding status_citations
  status-part b =
      unless_same s.excluded k.statuses _ (λ z i. ap (λ (x : Bool). only x (row t 20 i)) (meets-none (meet (row t 14 i) s.excluded) b (meet-none (row t 14 i) s.excluded z)))
      ∙ rules_all (status_count P) k.statuses _ _ (omega (arith, S.sound.status_limit)) S.statuses (λ i l.
      ap₂ only (ap₂ (λ (x y : ℕ). meets (meet x y) b) (S.persons i l) W.excluded ∙ meets-person (status P i).person w.excluded b) (S.status_cites i l))

  -- ---- the whole

  parted : (blocks : List ℕ) → ((p : ℕ) → entry blocks p ≡ block_of w.state p) → Parted (minus k.roster (marked w.marks)) blocks
  unfolding world_of after_marks
  parted blocks E =
      let B : Blocks (minus k.roster (marked w.marks)) w.state = world_blocks P k.roster S.named S.roster a (marks_of P k.roster I a) in
      let at : (p q : ℕ) → has (entry blocks p) q ≡ has (block_of w.state p) q = λ p q. ap (λ (x : ℕ). has x q) (E p) in
      record {
        self = λ p l. at p p ∙ B.self p l;
        owner = λ p q h. B.owner p q (sym (at p q) ∙ h);
        alive = λ p q h. B.alive p q (sym (at p q) ∙ h);
        agreed = λ p q h. E q ∙ B.agreed p q (sym (at p q) ∙ h) ∙ sym (E p);
      }

  seen : (p : ℕ) → has (marked w.marks) p ≡ false → (view P w p).citations ≡ citations P w p (block_of w.state p)
  unfolding view
  seen p e = rw e

  all_parts : (p b o th : ℕ) → o ≡ own_cuts P w p → th ≡ union_below (edge_count P) (λ e. only (on w.active.frozen e) (end_cuts P w b e))
      → union (edge_citations P w b) (union (union o th) (union (attachment_citations P w b) (union (bar_citations P w b) (status_citations P w b)))) ≡ citations P w p b
  unfolding citations
  all_parts p b o th x y =
      ap (λ (z : ℕ). union (edge_citations P w b) (union z (union (attachment_citations P w b) (union (bar_citations P w b) (status_citations P w b))))) (ap₂ union x y ∙ cut_split P w p b)

  pub cites-view : (blocks own zeros c1 c2 c3 c4 c5 before after : List ℕ) (persons m leading bars statuses : ℕ) → ((h : ℕ) → entry zeros h ≡ 0) → m ≡ minus s.barred s.excluded
      → ((x : ℕ) → entry own x ≡ own_of t s.applied x)
      → leading ≡ cond (eqb s.applied 0) 0 frozen → bars ≡ cond (eqb m 0) 0 k.bars → statuses ≡ cond (eqb s.excluded 0) 0 k.statuses
      → CitesIn blocks (λ b. union_of (λ e. only (meets (row t 0 e) b && subset (row t 0 e) b) (row t 16 e)) (members frozen)) zeros c1
      → CitesIn blocks (through (get_or t 0 []) leading (entry own)) c1 c2
      → CitesIn blocks (λ b. union_of (λ i. only (has b (lowest (row t 12 i)) && meets (row t 11 i) b) (row t 18 i)) (members k.attachments)) c2 c3
      → CitesIn blocks (λ b. union_of (λ i. only (meets (meet (row t 13 i) m) b) (row t 19 i)) (members bars)) c3 c4
      → CitesIn blocks (λ b. union_of (λ i. only (meets (meet (row t 14 i) s.excluded) b) (row t 20 i)) (members statuses)) c4 c5
      → CitedFor blocks c5 own persons before after → ((p : ℕ) → entry blocks p ≡ block_of w.state p)
      → (p : ℕ) → has persons p ≡ true → has (minus k.roster (marked w.marks)) p ≡ true → entry after p ≡ union (entry before p) (view P w p).citations
  cites-view blocks own zeros c1 c2 c3 c4 c5 before after persons m leading bars statuses Z M O lead_is bars-are statuses-are C1 C2 C3 C4 C5 H E p h l =
      H.at p
      ∙ ap₂ (λ (x y : Bool). cond (x && not y) (union (union (entry before p) (entry c5 (lowest b))) (entry own p)) (entry before p)) h (ne_eqb b 0 (filled blocks live fits B p l))
      ∙ ap (λ (x : ℕ). union (union (entry before p) x) (entry own p)) ((cites-both (cites-both (cites-both (cites-both C1 C2) C3) C4) C5).at live fits B p l ∙ ap (λ (x : ℕ). union x got) (Z (lowest b)) ∙ none-union got)
      ∙ regroup (entry before p) _ _ _ _ _ (entry own p)
      ∙ ap (union (entry before p)) (ap₂ union (edge-part b) (ap (union (union (entry own p) th)) (ap₂ union (attachment-part b) (ap₂ union
      (ap (λ (x : ℕ). union_of (λ i. only (meets (meet (row t 13 i) m) b) (row t 19 i)) (members x)) bars-are ∙ bar-part m b M)
      (ap (λ (x : ℕ). union_of (λ i. only (meets (meet (row t 14 i) s.excluded) b) (row t 20 i)) (members x)) statuses-are ∙ status-part b))))
      ∙ all_parts p b (entry own p) th (O p ∙ own-part p) (ap (λ (x : ℕ). through (get_or t 0 []) x (entry own) b) lead_is ∙ through-part own O b)
      ∙ ap (citations P w p) (E p) ∙ sym (seen p (of_minus k.roster (marked w.marks) p l).1))
    where
      b : ℕ
      b = entry blocks p

      live : ℕ
      live = minus k.roster (marked w.marks)

      fits : live < 2 ^ 64
      fits = lt_of_le_of_lt (minus_le k.roster (marked w.marks)) S.roster

      B : Parted live blocks
      B = parted blocks E

      th : ℕ
      th = through (get_or t 0 []) leading (entry own) b

      got : ℕ
      got =
          union (union (union (union (union_of (λ e. only (meets (row t 0 e) b && subset (row t 0 e) b) (row t 16 e)) (members frozen)) th)
          (union_of (λ i. only (has b (lowest (row t 12 i)) && meets (row t 11 i) b) (row t 18 i)) (members k.attachments)))
          (union_of (λ i. only (meets (meet (row t 13 i) m) b) (row t 19 i)) (members bars)))
          (union_of (λ i. only (meets (meet (row t 14 i) s.excluded) b) (row t 20 i)) (members statuses))
