-- Document 01, "Proved: each roster person is marked, or is in just one block whose members all report it".
use mathlib.Core.Path.{◌≡◌, refl, sym, ap, ◌∙◌}
use mathlib.Core.Bool.{Bool, true, false, ◌&&◌, not, cond, true≢false}
use mathlib.Core.Logic.{◌⊎◌, inl, inr, ⊎_elim}
use Prim.Native.Nat.{ℕ, ◌≤◌, ◌<◌, ◌^◌}
use lib.ListN.{get_or-eq_default}
use lib.Dec.{eqb}
use Rattle.sets.specs.paper.Sets.{has, one, union, minus, disjoint, subset, union_below}
use Rattle.records.specs.paper.Plan.{Plan, Cut, Attachment}
use Rattle.sets.proofs.SetLaws.{Within, has-none, has_high, thru, in_union_l, in_union_r, of_union, in_minus, of_minus, empty, subset-true, disjoint-false, lt_or_le}
use Rattle.sets.proofs.BelowLaws.{in_below, get_or-below_all, fold_keeps}
use Rattle.expressions.specs.paper.Rules.{edge_count, cut_count, attachment_count, bar_count, status_count, cut, attachment, bar, status, pair, with_anchor, rule_persons}
use Rattle.expressions.specs.paper.Nodes.{on}
use Rattle.expressions.specs.paper.Variables.{Influence}
use Rattle.worlds.specs.paper.Active.{Active}
use Rattle.worlds.specs.paper.World.{State, Marks, marked, block_of, kept_cuts, first_state, move, attach, last_state, marks_of, after_marks, world_of}
use Rattle.worlds.proofs.FirstBlocks.{Blocks, out_of_blocks, applied, first-blocks}

pub not_set : (b : Bool) → (b ≡ true → ⊥) → b ≡ false
not_set true h = absurd (h refl)
not_set false h = refl

-- ---- an attachment keeps it

module _ (live : ℕ) (high : (p : ℕ) → 64 ≤ p → has live p ≡ false) (i anchor movers : ℕ) (on-live : Within movers live) (s : State) (B : Blocks live s) where
  abbrev target : ℕ
  target = union (block_of s anchor) movers

  target_live : Within target live
  target_live = record { at = λ q h. ⊎_elim (λ k. B.alive anchor q k) (λ k. on-live.at q k) (of_union (block_of s anchor) movers q h) }

  abbrev after : ℕ → ℕ
  after p = cond (has target p) target (minus (block_of s p) movers)

  -- who stays in a block that is not the target's is not in the target
  stays : (p q : ℕ) → has target p ≡ false → has (minus (block_of s p) movers) q ≡ true → (has (block_of s p) q ≡ true) × (has target q ≡ false)
  stays p q e h = (t.0, not_set (has target q) (λ k. ⊎_elim (λ x. true≢false (sym (joined x) ∙ e)) (λ x. true≢false (sym x ∙ t.1)) (of_union (block_of s anchor) movers q k)))
    where
      t : (has (block_of s p) q ≡ true) × (has movers q ≡ false)
      t = of_minus (block_of s p) movers q h

      -- the anchor's block would hold p too
      joined : has (block_of s anchor) q ≡ true → has target p ≡ true
      joined k = (in_union_l (block_of s anchor) movers).at p (ap (λ (x : ℕ). has x p) (sym (B.agreed anchor q k) ∙ B.agreed p q t.0) ∙ B.self p (B.owner p q t.0))

  by : (p : ℕ) (b : Bool) → has target p ≡ b → after p ≡ cond b target (minus (block_of s p) movers)
  by p b e = ap (λ (x : Bool). cond x target (minus (block_of s p) movers)) e

  -- what a block holds afterwards
  record Held (p q : ℕ) : Type 0 where
    owner : has live p ≡ true
    alive : has live q ≡ true
    agreed : after q ≡ after p

  held : (p q : ℕ) (b : Bool) → has target p ≡ b → has (after p) q ≡ true → Held p q
  held p q true e h =
      let k = sym (ap (λ (x : ℕ). has x q) (by p true e)) ∙ h in
      record { owner = target_live.at p e; alive = target_live.at q k; agreed = by q true k ∙ sym (by p true e) }
  held p q false e h =
      let t = stays p q e (sym (ap (λ (x : ℕ). has x q) (by p false e)) ∙ h) in
      record {
        owner = B.owner p q t.0;
        alive = B.alive p q t.0;
        agreed = by q false t.1 ∙ ap (λ (x : ℕ). minus x movers) (B.agreed p q t.0) ∙ sym (by p false e);
      }

  own : (p : ℕ) (b : Bool) → has target p ≡ b → has live p ≡ true → has (after p) p ≡ true
  own p true e l = ap (λ (x : ℕ). has x p) (by p true e) ∙ e
  own p false e l = ap (λ (x : ℕ). has x p) (by p false e) ∙ in_minus (block_of s p) movers p (B.self p l)
      (not_set (has movers p) (λ k. true≢false (sym ((in_union_r (block_of s anchor) movers).at p k) ∙ e)))

  -- each block afterwards, nobody's past the sixty-four among them
  pub moved-block : (p : ℕ)
      → block_of (move i (union (block_of s anchor) movers) movers s) p
      ≡ cond (has (union (block_of s anchor) movers) p) (union (block_of s anchor) movers) (minus (block_of s p) movers)
  unfolding move
  moved-block = get_or-below_all 64 after (λ p h. empty (after p) (λ q e. true≢false (sym (held p q (has target p) refl e).owner ∙ high p h)))

  move-blocks : Blocks live (move i target movers s)
  move-blocks = record {
    self = λ p l. at p p ∙ own p (has target p) refl l;
    owner = λ p q h. (then p q h).owner;
    alive = λ p q h. (then p q h).alive;
    agreed = λ p q h. moved-block q ∙ (then p q h).agreed ∙ sym (moved-block p);
  }
    where
      at : (p q : ℕ) → has (block_of (move i target movers s) p) q ≡ has (after p) q
      at p q = ap (λ (x : ℕ). has x q) (moved-block p)

      then : (p q : ℕ) → has (block_of (move i target movers s) p) q ≡ true → Held p q
      then p q h = held p q (has target p) refl (sym (at p q) ∙ h)

-- ---- the world

nobody : (m roster : ℕ) → m ≡ 0 → Within m roster
nobody m roster z = record { at = λ q h. absurd (true≢false (sym h ∙ ap (λ (x : ℕ). has x q) z ∙ has-none q)) }

-- the persons of each rule are on the roster, if those of all rules are
module _ (P : Plan) (roster : ℕ) (on-roster : subset (rule_persons P) roster ≡ true) where
  edges : ℕ
  edges = union_below (edge_count P) (pair P)

  cuts : ℕ
  cuts = union_below (cut_count P) (λ i. (cut P i).members)

  spans : ℕ
  spans = union_below (attachment_count P) (with_anchor P)

  bars : ℕ
  bars = union_below (bar_count P) (λ i. (bar P i).members)

  statuses : ℕ
  statuses = union_below (status_count P) (λ i. one (status P i).person)

  others : ℕ
  others = union bars statuses

  persons : Within (union edges (union cuts (union spans others))) roster
  unfolding rule_persons edges cuts spans bars statuses others
  persons = subset-true (rule_persons P) roster on-roster

  after-edges : Within (union cuts (union spans others)) roster
  after-edges = thru (in_union_r edges (union cuts (union spans others))) persons

  after-cuts : Within (union spans others) roster
  after-cuts = thru (in_union_r cuts (union spans others)) after-edges

  after_spans : Within (union bars statuses) roster
  unfolding others
  after_spans = thru (in_union_r spans (union bars statuses)) after-cuts

  pub edge_on : (i : ℕ) → i < edge_count P → Within (pair P i) roster
  unfolding edges
  edge_on i l = thru (in_below (edge_count P) (pair P) i l) (thru (in_union_l edges (union cuts (union spans others))) persons)

  pub cut_on : (c : ℕ) → Within (cut P c).members roster
  unfolding cuts cut
  cut_on c = ⊎_elim named past (lt_or_le c (cut_count P))
    where
      named : c < cut_count P → Within (cut P c).members roster
      named l = thru (in_below (cut_count P) (λ i. (cut P i).members) c l) (thru (in_union_l cuts (union spans others)) after-edges)

      past : cut_count P ≤ c → Within (cut P c).members roster
      past l = nobody (cut P c).members roster (ap (λ (x : Cut). x.members) (get_or-eq_default P.cuts _ l))

  pub with_anchor-on : (i : ℕ) → i < attachment_count P → Within (with_anchor P i) roster
  unfolding spans
  with_anchor-on i l = thru (in_below (attachment_count P) (with_anchor P) i l) (thru (in_union_l spans others) after-cuts)

  pub attachment-on : (i : ℕ) → Within (attachment P i).members roster
  unfolding with_anchor attachment
  attachment-on i = ⊎_elim named past (lt_or_le i (attachment_count P))
    where
      named : i < attachment_count P → Within (attachment P i).members roster
      named l = thru (in_union_l (attachment P i).members (one (attachment P i).anchor)) (with_anchor-on i l)

      past : attachment_count P ≤ i → Within (attachment P i).members roster
      past l = nobody (attachment P i).members roster (ap (λ (x : Attachment). x.members) (get_or-eq_default P.attachments _ l))

  pub bar-on : (i : ℕ) → i < bar_count P → Within (bar P i).members roster
  unfolding bars
  bar-on i l = thru (in_below (bar_count P) (λ i. (bar P i).members) i l) (thru (in_union_l bars statuses) after_spans)

  pub status-on : (i : ℕ) → i < status_count P → Within (one (status P i).person) roster
  unfolding statuses
  status-on i l = thru (in_below (status_count P) (λ i. one (status P i).person) i l) (thru (in_union_r bars statuses) after_spans)

  module _ (fits : roster < 2 ^ 64) (a : Active) (m : Marks) where
    abbrev live : ℕ
    live = minus roster (marked m)

    pub live_below : (p : ℕ) → 64 ≤ p → has (minus roster (marked m)) p ≡ false
    live_below p h = not_set (has live p) (λ e. true≢false (sym (of_minus roster (marked m) p e).0 ∙ has_high 64 roster p fits h))

    -- the unmarked members of an attachment
    pub movers_live : (i : ℕ) → Within (minus (attachment P i).members (marked m)) (minus roster (marked m))
    movers_live i = record {
      at = λ q h.
          let t = of_minus (attachment P i).members (marked m) q h in
          in_minus roster (marked m) q ((attachment-on i).at q t.0) t.1;
    }

    pub attach-blocks : (i : ℕ) (s : State) → Blocks (minus roster (marked m)) s → Blocks (minus roster (marked m)) (attach P (marked m) a i s)
    unfolding attach
    attach-blocks i s B = pick (on a.attachments i && not (eqb (block_of s (attachment P i).anchor) 0))
      where
        movers : ℕ
        movers = minus (attachment P i).members (marked m)

        pick : (b : Bool) → Blocks live (cond b (move i (union (block_of s (attachment P i).anchor) movers) movers s) s)
        pick true = move-blocks live live_below i (attachment P i).anchor movers (movers_live i) s B
        pick false = B

    pub world_blocks : Blocks (minus roster (marked m)) (after_marks P roster a m).state
    unfolding after_marks last_state
    world_blocks =
        fold_keeps (Blocks live) (attach P (marked m) a) attach-blocks (attachment_count P) (first_state P roster (marked m) a (applied P a (kept_cuts P a)))
        (first-blocks P roster (marked m) a (kept_cuts P a) fits cut_on)

-- two blocks of one world are one, or have nobody in common
pub equal_or_disjoint : (live : ℕ) (s : State) → Blocks live s → (p q : ℕ) → (block_of s p ≡ block_of s q) ⊎ (disjoint (block_of s p) (block_of s q) ≡ true)
equal_or_disjoint live s B p q = pick (disjoint (block_of s p) (block_of s q)) refl
  where
    pick : (b : Bool) → disjoint (block_of s p) (block_of s q) ≡ b → (block_of s p ≡ block_of s q) ⊎ (disjoint (block_of s p) (block_of s q) ≡ true)
    pick true e = inr e
    pick false e =
        let w = disjoint-false (block_of s p) (block_of s q) e in
        inl (sym (B.agreed p w.0 w.1) ∙ B.agreed q w.0 w.2)

pub record InNoBlock (s : State) (p : ℕ) : Type 0 where
  pub none : block_of s p ≡ 0
  pub nowhere : (q : ℕ) → has (block_of s q) p ≡ false

pub record InOneBlock (roster marks : ℕ) (s : State) (p : ℕ) : Type 0 where
  pub holds : has (block_of s p) p ≡ true
  -- its members are on the roster and not marked, and all report it
  pub members : (q : ℕ) → has (block_of s p) q ≡ true → (has roster q ≡ true) × (has marks q ≡ false) × (block_of s q ≡ block_of s p)
  -- and there is no other: any block that holds the person is this one
  pub only : (q : ℕ) → has (block_of s q) p ≡ true → block_of s q ≡ block_of s p

-- DOCUMENT 01, "PROVED"
pub partition : (P : Plan) (roster : ℕ) → roster < 2 ^ 64 → subset (rule_persons P) roster ≡ true → (I : Influence) (a : Active) (p : ℕ) → has roster p ≡ true
    → ((has (marked (world_of P roster I a).marks) p ≡ true) × InNoBlock (world_of P roster I a).state p)
    ⊎ InOneBlock roster (marked (world_of P roster I a).marks) (world_of P roster I a).state p
unfolding world_of after_marks
partition P roster fits on-roster I a p here = pick (has (marked m) p) refl
  where
    m : Marks
    m = marks_of P roster I a

    s : State
    s = (after_marks P roster a m).state

    live : ℕ
    live = minus roster (marked m)

    B : Blocks live s
    B = world_blocks P roster on-roster fits a m

    pick : (b : Bool) → has (marked m) p ≡ b → ((has (marked m) p ≡ true) × InNoBlock s p) ⊎ InOneBlock roster (marked m) s p
    pick true e =
        let out = not_set (has live p) (λ h. true≢false (sym e ∙ (of_minus roster (marked m) p h).1)) in
        inl (e, record { none = out_of_blocks live s B p out; nowhere = λ q. not_set (has (block_of s q) p) (λ h. true≢false (sym (B.alive q p h) ∙ out)) })
    pick false e = inr (record {
      holds = B.self p (in_minus roster (marked m) p here e);
      members = λ q h.
          let t = of_minus roster (marked m) q (B.alive p q h) in
          (t.0, t.1, B.agreed p q h);
      only = λ q h. sym (B.agreed q p h);
    })
