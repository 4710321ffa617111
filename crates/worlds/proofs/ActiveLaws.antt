-- Activity of rules from the values of nodes, and what of it is the same in two worlds.
use mathlib.Core.Path.{◌≡◌, refl, sym, ap, ap₂, ◌∙◌}
use mathlib.Core.Bool.{Bool, true, false, ◌&&◌, ◌||◌, not, and_assoc, and-true, and-false, or-false, false≢true}
use mathlib.Core.Logic.{⊎_elim}
use mathlib.Core.List.{List, []}
use Prim.Native.Nat.{ℕ, ◌<◌, ◌≤◌}
use native.Mathlib.Omega.{arith}
use lib.ListN.{length, get_or, take}
use lib.Seq.{get_or-take, length-take-le}
use lib.Dec.{ltb}
use borrow.Author.Tests.{ltb-true, lt-ltb}
use Rattle.sets.specs.paper.Sets.{has, union, minus, meets, below, any_of, All}
use Rattle.records.specs.paper.Plan.{Plan}
use Rattle.records.specs.promises.Sound.{Sound, SoundNodes, SoundEdge, SoundCut, SoundAttachment, SoundBar, SoundStatus}
use Rattle.sets.proofs.SetLaws.{has-union, has-minus, has-none, lt_or_le, meeting}
use Rattle.sets.proofs.LoopLaws.{get_or-below, get_d_past, all_at}
use Rattle.sets.proofs.BelowLaws.{flag-set}
use Rattle.expressions.specs.paper.Rules.{edge_count, cut_count, attachment_count, bar_count, status_count, edge, cut, attachment, bar, status}
use Rattle.expressions.specs.paper.Nodes.{on, values, node_uses}
use Rattle.expressions.specs.code.Coded.{Holds}
use Rattle.expressions.specs.paper.Influence.{uses_at, edge_uses, cut_uses, attachment_uses, bar_uses, status_uses}
use Rattle.expressions.specs.paper.Variables.{Values}
use Rattle.expressions.proofs.ListLaws.{below_at}
use Rattle.expressions.proofs.Follow.{On, node_follows}
use Rattle.worlds.specs.paper.Active.{active, flags}
use Rattle.worlds.specs.code.Over.{entry}
use Rattle.worlds.specs.code.Tables.{row, TellsActive}
use Rattle.worlds.specs.code.Valued.{NodesStand, OpenNodes, Valued, bits_at, Chosen, ValuedWords, ReadWorld, Steady}
use Rattle.worlds.specs.code.Conditions.{Split, Known, ActiveBy}
use Rattle.worlds.specs.declared.tables.Active.{Active}
use Rattle.worlds.proofs.ValueLaws.{any_near}
use Rattle.worlds.proofs.WordLaws.{on-bits}
use Rattle.worlds.proofs.CutsSeen.{freezes_follow}

-- ---- the rules of a kind: those that are known, and of those that are asked the ones that hold

split_tells : (n : ℕ) (f g : ℕ → Bool) (known asked holding : ℕ) → Split n (on (below n f)) known asked → ((i : ℕ) → has holding i ≡ (has asked i && g i))
    → ((i : ℕ) → i < n → g i ≡ f i) → (i : ℕ) → has (union known holding) i ≡ on (below n f) i
split_tells n f g known asked holding s h e i = has-union known holding i ∙ ap (λ (b : Bool). has known i || b) (h i) ∙ pick (has asked i) refl
  where
    pick : (b : Bool) → has asked i ≡ b → (has known i || (has asked i && g i)) ≡ on (below n f) i
    pick true a =
        let o = s.out i a in
        ap₂ (λ (x y : Bool). x || (y && g i)) o.0 a ∙ e i o.1 ∙ sym (get_or-below n f false i o.1)
    pick false a = ap (λ (y : Bool). has known i || (y && g i)) a ∙ or-false (has known i) ∙ s.rest i a

module _ (P : Plan) (facts : ℕ) (vs : List Bool) (hold : Valued P facts vs) where
  here : (row node : ℕ) → row ≡ node → node < length P.nodes → on vs row ≡ on (values P facts) node
  here row node e l = ap (on vs) e ∙ hold.at node l

  against : (row is : List ℕ) → row ≡ is → All (λ i. i < length P.nodes) is → any_of (on vs) row ≡ any_of (on (values P facts)) is
  against row is e a = ap (any_of (on vs)) e ∙ any_near (on vs) (on (values P facts)) (length P.nodes) hold.at is a

module _ (P : Plan) (sound : Sound P) where
  edge-sound : (i : ℕ) → i < edge_count P → SoundEdge P (edge P i)
  unfolding edge
  edge-sound i l = all_at (SoundEdge P) P.edges _ i sound.edges l

  cut-sound : (i : ℕ) → i < cut_count P → SoundCut P (cut P i)
  unfolding cut
  cut-sound i l = all_at (SoundCut P) P.cuts _ i sound.cuts l

  attachment-sound : (i : ℕ) → i < attachment_count P → SoundAttachment P (attachment P i)
  unfolding attachment
  attachment-sound i l = all_at (SoundAttachment P) P.attachments _ i sound.attachments l

  bar-sound : (i : ℕ) → i < bar_count P → SoundBar P (bar P i)
  unfolding bar
  bar-sound i l = all_at (SoundBar P) P.bars _ i sound.bars l

  status-sound : (i : ℕ) → i < status_count P → SoundStatus P (status P i)
  unfolding status
  status-sound i l = all_at (SoundStatus P) P.statuses _ i sound.statuses l

-- of the rules that are asked those whose condition holds, as src/active.rt finds them
pub record Found (conditions : List (List ℕ)) (vs : List Bool) (kind asked holding : ℕ) : Type 0 where
  pub at : (i : ℕ) → has holding i ≡ (has asked i && on vs (row conditions kind i))

-- THE MASKS OF A WORLD, from what is known and what is found of what is asked
module _ (conditions defeaters : List (List ℕ)) (known asked : Active) (decisions : ℕ) (vs : List Bool) where
  pub active_by : (edges frozen cuts attachments bars statuses : ℕ) → Found conditions vs 0 asked.frozen edges
      → ((i : ℕ) → has frozen i ≡ (has edges i && not (any_of (on vs) (take (row conditions 5 i) (get_or defeaters i [])))))
      → Found conditions vs 1 asked.cuts cuts → Found conditions vs 2 asked.attachments attachments → Found conditions vs 3 asked.bars bars
      → Found conditions vs 4 asked.statuses statuses
      → ActiveBy conditions defeaters known asked decisions vs (record {
        frozen = union known.frozen frozen;
        cuts = union known.cuts cuts;
        attachments = union known.attachments attachments;
        bars = union known.bars bars;
        statuses = union known.statuses statuses;
        decisions = decisions;
      })
  unfolding active flags
  active_by edges frozen cuts attachments bars statuses he hf hc ha hb ht = record {
    at = λ P v sound C hold d K. record {
      frozen = split_tells (edge_count P) _ (λ i. on vs (row conditions 0 i) && not (any_of (on vs) (take (row conditions 5 i) (get_or defeaters i []))))
          known.frozen asked.frozen frozen K.edges
          (λ i. hf i ∙ ap (λ (b : Bool). b && not (any_of (on vs) (take (row conditions 5 i) (get_or defeaters i [])))) (he.at i) ∙ and_assoc (has asked.frozen i) _ _)
          (λ i l. ap₂ (λ (x y : Bool). x && not y) (here P v.facts vs hold _ _ (C.edges i l) (edge-sound P sound i l).condition)
          (against P v.facts vs hold _ _ (C.against i l) (edge-sound P sound i l).defeaters.1));
      cuts = split_tells (cut_count P) _ _ known.cuts asked.cuts cuts K.cuts hc.at
          (λ i l. here P v.facts vs hold _ _ (C.cuts i l) (cut-sound P sound i l).condition);
      attachments = split_tells (attachment_count P) _ _ known.attachments asked.attachments attachments K.attachments ha.at
          (λ i l. here P v.facts vs hold _ _ (C.attachments i l) (attachment-sound P sound i l).condition);
      bars = split_tells (bar_count P) _ _ known.bars asked.bars bars K.bars hb.at
          (λ i l. here P v.facts vs hold _ _ (C.bars i l) (bar-sound P sound i l).condition);
      statuses = split_tells (status_count P) _ _ known.statuses asked.statuses statuses K.statuses ht.at
          (λ i l. here P v.facts vs hold _ _ (C.statuses i l) (status-sound P sound i l).condition);
      decisions = sym d;
      edges_below = λ i e. (flag-set (edge_count P) _ i e).0;
      cuts_below = λ i e. (flag-set (cut_count P) _ i e).0;
      attachments_below = λ i e. (flag-set (attachment_count P) _ i e).0;
      bars_below = λ i e. (flag-set (bar_count P) _ i e).0;
      statuses_below = λ i e. (flag-set (status_count P) _ i e).0;
    };
  }

-- ---- a rule's activity follows from the facts that it uses

module _ (P : Plan) (v w : Values) where
  pub frozen_follows : (i : ℕ) → On (edge_uses P i) v.facts w.facts → on (active P v).frozen i ≡ on (active P w).frozen i
  unfolding active flags
  frozen_follows i o = below_at (edge_count P) _ _ false i (λ l. freezes_follow P v.facts w.facts i o)

  pub cut_follows : (i : ℕ) → On (cut_uses P i) v.facts w.facts → on (active P v).cuts i ≡ on (active P w).cuts i
  unfolding active flags cut_uses
  cut_follows i o = below_at (cut_count P) _ _ false i (λ l. node_follows v.facts w.facts P (cut P i).condition o)

  pub attachment_follows : (i : ℕ) → On (attachment_uses P i) v.facts w.facts → on (active P v).attachments i ≡ on (active P w).attachments i
  unfolding active flags attachment_uses
  attachment_follows i o = below_at (attachment_count P) _ _ false i (λ l. node_follows v.facts w.facts P (attachment P i).condition o)

  pub bar_follows : (i : ℕ) → On (bar_uses P i) v.facts w.facts → on (active P v).bars i ≡ on (active P w).bars i
  unfolding active flags bar_uses
  bar_follows i o = below_at (bar_count P) _ _ false i (λ l. node_follows v.facts w.facts P (bar P i).condition o)

  pub status_follows : (i : ℕ) → On (status_uses P i) v.facts w.facts → on (active P v).statuses i ≡ on (active P w).statuses i
  unfolding active flags status_uses
  status_follows i o = below_at (status_count P) _ _ false i (λ l. node_follows v.facts w.facts P (status P i).condition o)

-- ---- two sets of true facts that differ in varying facts alone

pub record Off (varying v w : ℕ) : Type 0 where
  pub at : (f : ℕ) → has varying f ≡ false → has v f ≡ has w f

pub off_on : (u varying : ℕ) {v w : ℕ} → meets u varying ≡ false → Off varying v w → On u v w
unfolding meets
off_on u varying {v} {w} e o = record { at = λ f h. pick f h (has varying f) refl }
  where
    pick : (f : ℕ) → has u f ≡ true → (b : Bool) → has varying f ≡ b → has v f ≡ has w f
    pick f h true t = absurd (false≢true (sym e ∙ ap not (meeting u varying f h t)))
    pick f h false t = o.at f t

-- THE VALUES OF A WORLD, by way of the words of the open nodes
module _ (P : Plan) (sound : SoundNodes P 0 P.nodes) (sorts numbers counts : List ℕ) (children : List (List ℕ)) (m : ℕ)
    (stand : NodesStand P.nodes m sorts numbers counts children) (uses : List ℕ) (textual : Holds 0 uses (node_uses P))
    (varying n : ℕ) (listed : List ℕ) (opens : OpenNodes uses (length P.nodes) varying n listed) (room : n ≤ length listed) where
  front : (j : ℕ) → j < n → entry (take n listed) j ≡ entry listed j
  front j l = get_or-take n listed j 0 l

  within : (j : ℕ) → j < length (take n listed) → j < n
  within j l = let e = length-take-le n listed room in omega arith

  rising : (j k : ℕ) → j < k → k < length (take n listed) → entry (take n listed) j < entry (take n listed) k
  rising j k l h =
      let lk = within k h in
      let a = front j (omega arith) in
      let b = front k lk in
      let c = opens.rising j k l lk in
      omega arith

  closed : (i : ℕ) → i < length P.nodes → ((j : ℕ) → j < length (take n listed) → entry (take n listed) j ≡ i → ⊥) → meets (uses_at P i) varying ≡ false
  closed i l h = pick (meets (uses_at P i) varying) refl
    where
      pick : (b : Bool) → meets (uses_at P i) varying ≡ b → meets (uses_at P i) varying ≡ false
      pick true e =
          let r = opens.complete i l (ap (λ (u : ℕ). meets u varying) (textual.at i) ∙ e) in
          let k = length-take-le n listed room in
          absurd (h r.0 (omega (arith, r.1)) (front r.0 r.1 ∙ r.2))
      pick false e = e

  -- a node that uses no varying fact is not listed
  unlisted : (i : ℕ) → meets (uses_at P i) varying ≡ false → (j : ℕ) → j < length (take n listed) → entry (take n listed) j ≡ i → ⊥
  unlisted i e j l z =
      let k = within j l in
      let same = sym (front j k) ∙ z in
      false≢true (sym e ∙ ap (λ (u : ℕ). meets u varying) (sym (textual.at i)) ∙ ap (λ (m : ℕ). meets (entry uses m) varying) (sym same) ∙ (opens.sound j k).1)

  -- in every world of the words: where the facts agree but on those that vary
  pub words_valued : (base facts m : ℕ) (free before after : List ℕ) → Steady P varying base before → ValuedWords sorts numbers counts children (take n listed) free m facts before after
      → (j chosen : ℕ) → j < 64 → Chosen free m facts j chosen → Off varying base chosen → Valued P chosen (bits_at j after)
  words_valued base facts m free before after S made j chosen l C off =
      (made.at j chosen l C).at P _ stand sound rising (λ i b h.
      on-bits j before i ∙ S.at i j b l (closed i b h) ∙ node_follows base chosen P i (off_on (uses_at P i) varying (closed i b h) off))

  pub words_steady : (base facts m : ℕ) (free before after : List ℕ) → Steady P varying base before → ValuedWords sorts numbers counts children (take n listed) free m facts before after
      → Steady P varying base after
  words_steady base facts m free before after S made = record { at = λ i j b l e. ap (λ (w : ℕ). has w j) (made.others i (unlisted i e)) ∙ S.at i j b l e }

  pub read-valued : (facts other j : ℕ) (words : List ℕ) (before after : List Bool) → Off varying other facts → Valued P other before → Valued P facts (bits_at j words)
      → ReadWorld words (take n listed) j before after → Valued P facts after
  read-valued facts other j words before after off holds W R = record { at = λ i l. pick i l (meets (uses_at P i) varying) refl }
    where
      pick : (i : ℕ) → i < length P.nodes → (b : Bool) → meets (uses_at P i) varying ≡ b → on after i ≡ on (values P facts) i
      pick i l true e =
          let r = opens.complete i l (ap (λ (u : ℕ). meets u varying) (textual.at i) ∙ e) in
          let k = length-take-le n listed room in
          let is = front r.0 r.1 ∙ r.2 in
          ap (on after) (sym is) ∙ R.here r.0 (omega (arith, r.1)) ∙ ap (λ (m : ℕ). has (entry words m) j) is ∙ sym (on-bits j words i) ∙ W.at i l
      pick i l false e = R.others i (unlisted i e) ∙ holds.at i l ∙ node_follows other facts P i (off_on (uses_at P i) varying e off)

-- ---- what is known of the rules of all worlds

-- nothing: every rule is asked
split_all : (n : ℕ) (f : ℕ → Bool) (asked : ℕ) → ((i : ℕ) → has asked i ≡ ltb i n) → Split n (on (below n f)) 0 asked
split_all n f asked h = record {
  rest = λ i e. has-none i ∙ sym (⊎_elim (λ l. absurd (false≢true (sym e ∙ h i ∙ lt-ltb i n l))) (λ l. get_d_past n f false i l) (lt_or_le i n));
  out = λ i e. (has-none i, ltb-true i n (sym (h i) ∙ e));
}

-- what one world tells of the rules that use no varying fact
split_same : (n : ℕ) (f g : ℕ → Bool) (uses : ℕ → ℕ) (varying told asked : ℕ) → ((i : ℕ) → has told i ≡ on (below n f) i)
    → ((i : ℕ) → has asked i ≡ (ltb i n && meets (uses i) varying)) → ((i : ℕ) → meets (uses i) varying ≡ false → on (below n f) i ≡ on (below n g) i)
    → Split n (on (below n g)) (minus told asked) asked
split_same n f g uses varying told asked t h s = record {
  rest = λ i e. has-minus told asked i ∙ ap (λ (b : Bool). has told i && not b) e ∙ and-true (has told i) ∙ t i
      ∙ ⊎_elim (λ l. s i (sym (ap (λ (b : Bool). b && meets (uses i) varying) (lt-ltb i n l)) ∙ sym (h i) ∙ e)) (λ l. get_d_past n f false i l ∙ sym (get_d_past n g false i l)) (lt_or_le i n);
  out = λ i e. (has-minus told asked i ∙ ap (λ (b : Bool). has told i && not b) e ∙ and-false (has told i), ltb-true i n (and_left (ltb i n) (meets (uses i) varying) (sym (h i) ∙ e)));
}
  where
    and_left : (x y : Bool) → (x && y) ≡ true → x ≡ true
    and_left true y e = refl
    and_left false y e = e

-- the masks of all rules
pub record Whole (P : Plan) (all : Active) : Type 0 where
  pub edges : (i : ℕ) → has all.frozen i ≡ ltb i (edge_count P)
  pub cuts : (i : ℕ) → has all.cuts i ≡ ltb i (cut_count P)
  pub attachments : (i : ℕ) → has all.attachments i ≡ ltb i (attachment_count P)
  pub bars : (i : ℕ) → has all.bars i ≡ ltb i (bar_count P)
  pub statuses : (i : ℕ) → has all.statuses i ≡ ltb i (status_count P)

-- the masks of the rules that use a varying fact
pub record Using (P : Plan) (varying : ℕ) (some : Active) : Type 0 where
  pub edges : (i : ℕ) → has some.frozen i ≡ (ltb i (edge_count P) && meets (edge_uses P i) varying)
  pub cuts : (i : ℕ) → has some.cuts i ≡ (ltb i (cut_count P) && meets (cut_uses P i) varying)
  pub attachments : (i : ℕ) → has some.attachments i ≡ (ltb i (attachment_count P) && meets (attachment_uses P i) varying)
  pub bars : (i : ℕ) → has some.bars i ≡ (ltb i (bar_count P) && meets (bar_uses P i) varying)
  pub statuses : (i : ℕ) → has some.statuses i ≡ (ltb i (status_count P) && meets (status_uses P i) varying)

pub known-none : (P : Plan) (v : Values) (all : Active) (decisions : ℕ) → Whole P all
    → Known P (active P v) (record { frozen = 0; cuts = 0; attachments = 0; bars = 0; statuses = 0; decisions = decisions }) all
unfolding active flags
known-none P v all decisions h = record {
  edges = split_all (edge_count P) _ all.frozen h.edges;
  cuts = split_all (cut_count P) _ all.cuts h.cuts;
  attachments = split_all (attachment_count P) _ all.attachments h.attachments;
  bars = split_all (bar_count P) _ all.bars h.bars;
  statuses = split_all (status_count P) _ all.statuses h.statuses;
}

-- WHAT ALL WORLDS SHARE: the rules that use no varying fact, as one world tells them
pub known_same : (P : Plan) (v w : Values) (varying : ℕ) (told asked : Active) (decisions : ℕ) → Off varying v.facts w.facts → TellsActive P (active P v) told → Using P varying asked
    → Known P (active P w) (record {
      frozen = minus told.frozen asked.frozen;
      cuts = minus told.cuts asked.cuts;
      attachments = minus told.attachments asked.attachments;
      bars = minus told.bars asked.bars;
      statuses = minus told.statuses asked.statuses;
      decisions = decisions;
    }) asked
unfolding active flags
known_same P v w varying told asked decisions off t h = record {
  edges = split_same (edge_count P) _ _ (edge_uses P) varying told.frozen asked.frozen t.frozen h.edges (λ i e. frozen_follows P v w i (off_on (edge_uses P i) varying e off));
  cuts = split_same (cut_count P) _ _ (cut_uses P) varying told.cuts asked.cuts t.cuts h.cuts (λ i e. cut_follows P v w i (off_on (cut_uses P i) varying e off));
  attachments = split_same (attachment_count P) _ _ (attachment_uses P) varying told.attachments asked.attachments t.attachments h.attachments
      (λ i e. attachment_follows P v w i (off_on (attachment_uses P i) varying e off));
  bars = split_same (bar_count P) _ _ (bar_uses P) varying told.bars asked.bars t.bars h.bars (λ i e. bar_follows P v w i (off_on (bar_uses P i) varying e off));
  statuses = split_same (status_count P) _ _ (status_uses P) varying told.statuses asked.statuses t.statuses h.statuses
      (λ i e. status_follows P v w i (off_on (status_uses P i) varying e off));
}
