-- What the worlds of a case share: sets built number by number, and the tables whole.
use mathlib.Core.Path.{◌≡◌, refl, sym, ap, ap₂, ◌∙◌, subst}
use mathlib.Core.Bool.{Bool, true, false, ◌&&◌, ◌||◌, not, cond, or-true, and-true, and-false, and_assoc, true≢false, beq}
use mathlib.Core.Logic.{◌⊎◌, inl, inr, ⊎_elim}
use mathlib.Core.List.{List, [], ◌∷◌, ◌++◌}
use Prim.Native.Nat.{ℕ, zero, suc, ◌-◌, ◌^◌, ◌≤◌, ◌<◌}
use native.Mathlib.Nat.{lt_of_lt_of_le, pow-le-pow_right, zero-lt-suc}
use native.Mathlib.Omega.{arith}
use lib.Pow.{pow_pos}
use lib.ListN.{length, get_or, set, take, replicate}
use lib.Dec.{eqb, ltb}
use borrow.Author.Tests.{eqb-true, lt-ltb, ltb-true}
use Rattle.sets.specs.paper.Sets.{has, one, union, minus, disjoint, meets, subset, rising_less, only, set_of, members, absorb, pass, passes, close_of, union_below, fold_below, any_of, union_of, All}
use Rattle.sets.proofs.SetLaws.{has-none, has_one, has-minus, has_high, has-not, disjoint-true, disjoint-false, of_union, in_union_l, in_union_r, union_lt, one_lt, antisym, lt_or_le}
use Rattle.sets.proofs.Closing.{passes-next, in_one}
use Rattle.sets.proofs.BelowLaws.{union_find, in_below, of_only, in_only}
use Rattle.sets.proofs.LoopLaws.{all_at}
use Rattle.sets.proofs.Every.{all_then}
use Rattle.records.specs.paper.Plan.{Plan, Cut, Heading, one_end}
use Rattle.records.specs.promises.Sound.{Sound, SoundEdge, SoundDecision, SoundCut, SoundAttachment, SoundBar, SoundStatus}
use Rattle.records.specs.code.Decoded.{if_given, plan_of, edges_of, cuts_of, attachments_of, bars_of, statuses_of}
use Rattle.records.specs.declared.plan.Plan.{Plan as Coded}
use Rattle.expressions.specs.paper.Rules.{edge_count, cut_count, edge, cut, pair, chained, rule_sets, rule_persons}
use Rattle.expressions.specs.paper.Influence.{open_decisions}
use Rattle.expressions.specs.code.Undecided.{Named, opens_of}
use Rattle.expressions.specs.paper.Variables.{Influence}
use Rattle.expressions.specs.declared.decisions.Undecided.{Undecided}
use Rattle.expressions.proofs.ListLaws.{filled_at}
use Rattle.expressions.proofs.OpenLaws.{all_named}
use Rattle.worlds.specs.code.Over.{entry}
use Rattle.worlds.specs.paper.World.{chain_step, preceded, precedes, same_members, spread}
use Rattle.worlds.specs.code.Tables.{row, sharing, Stands}
use Rattle.worlds.specs.code.Laid.{EdgeFits, CutFits, AttachmentFits, BarFits, StatusFits, OpenFits, EdgesLaid, CutsLaid, AttachmentsLaid, BarsLaid, StatusesLaid, DecisionsLaid}
use Rattle.worlds.specs.code.Related.{PrecedesFit, chain_by, Preceding, Chained, RelatedAt, CutsRelated}
use Rattle.worlds.specs.code.Made.{Combination, SpreadLaid, CommonFor}
use Rattle.worlds.specs.declared.tables.Common.{Common}
use Rattle.sets.proofs.TurnLaws.{union-has, has-union_of}
use Rattle.worlds.proofs.ClassLaws.{gathered}

-- ---- closings of sets that masks hold

few-absorb : (s m : ℕ) → s < 2 ^ 64 → m < 2 ^ 64 → absorb s m < 2 ^ 64
unfolding absorb
few-absorb s m h k = pick (disjoint s m)
  where
    pick : (b : Bool) → cond b m (union m s) < 2 ^ 64
    pick true = k
    pick false = union_lt 64 m s k h

few-pass : (ss : List ℕ) (m : ℕ) → ((i : ℕ) → get_or ss i 0 < 2 ^ 64) → m < 2 ^ 64 → pass ss m < 2 ^ 64
unfolding pass
few-pass [] m h k = k
few-pass (s ∷ ss) m h k = few-pass ss (absorb s m) (λ i. h (suc i)) (few-absorb s m (h 0) k)

few-passes : (n : ℕ) (ss : List ℕ) (m : ℕ) → ((i : ℕ) → get_or ss i 0 < 2 ^ 64) → m < 2 ^ 64 → passes n ss m < 2 ^ 64
unfolding passes
few-passes zero ss m h k = k
few-passes (suc n) ss m h k = subst (λ (x : ℕ). x < 2 ^ 64) (sym (passes-next n ss m)) (few-passes n ss (pass ss m) h (few-pass ss m h k))

pub few_close : (ss : List ℕ) (m : ℕ) → ((i : ℕ) → get_or ss i 0 < 2 ^ 64) → m < 2 ^ 64 → close_of ss m < 2 ^ 64
unfolding close_of
few_close ss m h k = few-passes (length ss) ss m h k

-- how far a mark at p spreads, gathered from the classes of those whom it reaches first
pub spread_gathered : (rules influence by_rules_lem by-influence : List ℕ) (p all : ℕ) → p < 64 → ((i : ℕ) → get_or influence i 0 < 2 ^ 64)
    → ((q : ℕ) → q < 64 → entry by_rules_lem q ≡ close_of rules (one q)) → ((q : ℕ) → q < 64 → entry by-influence q ≡ close_of influence (one q))
    → all ≡ union_of (entry by_rules_lem) (members (entry by-influence p)) → all ≡ close_of rules (close_of influence (one p))
spread_gathered rules influence by_rules_lem by-influence p all l few r i e =
    e ∙ ap (λ (m : ℕ). union_of (entry by_rules_lem) (members m)) (i p l)
    ∙ gathered rules by_rules_lem reached bound (λ q h. r q (under q h))
  where
    reached : ℕ
    reached = close_of influence (one p)

    bound : reached < 2 ^ 64
    bound = few_close influence (one p) few (one_lt 64 p l)

    under : (q : ℕ) → has reached q ≡ true → q < 64
    under q h = ⊎_elim (λ k. k) (λ k. absurd (true≢false (sym h ∙ has_high 64 reached q bound k))) (lt_or_le q 64)

-- ---- masks of all rules of a kind

pub kind-has : (r n count : ℕ) → (n ≤ 64 → (i : ℕ) → has r i ≡ ltb i n) → n ≤ 64 → count ≡ n → (i : ℕ) → has r i ≡ ltb i count
kind-has r n count h l e i = h l i ∙ ap (ltb i) (sym e)

first-heading : {A : Type 0} (n : ℕ) (x d : A) → length (take n (x ∷ [])) ≡ 1 → get_or (take n (x ∷ [])) 0 d ≡ x
first-heading zero x d e = absurd (omega arith)
first-heading (suc n) x d e = refl

pub chained_is : (plan : Coded) → Sound (plan_of plan) → chained (plan_of plan) ≡ plan.chained
unfolding plan_of chained
chained_is plan sound =
    ap (λ (h : Heading). not (eqb (length h.chain) 0)) (first-heading plan.headings _ _ sound.heading) ∙ pick plan.chained
  where
    pick : (b : Bool) → not (eqb (length (if_given b plan.chain)) 0) ≡ b
    pick true = refl
    pick false = refl

-- the Base edges, where no chain is cited
pub base-has : (all few base count e : ℕ) (combination cited : Bool) → has all e ≡ ltb e count → has few e ≡ (ltb e count && combination) → base ≡ minus all few
    → cited ≡ false → has base e ≡ (ltb e count && (not combination && not cited))
base-has all few base count e combination cited h k b q =
    ap (λ (x : ℕ). has x e) b ∙ has-minus all few e ∙ ap₂ (λ (x y : Bool). x && not y) h k ∙ pick (ltb e count)
  where
    pick : (b : Bool) → (b && not (b && combination)) ≡ (b && (not combination && not cited))
    pick true = sym (ap (λ (x : Bool). not combination && not x) q ∙ and-true (not combination))
    pick false = refl

pub base-none : (base count e : ℕ) (combination cited : Bool) → base ≡ 0 → cited ≡ true → has base e ≡ (ltb e count && (not combination && not cited))
base-none base count e combination cited b q =
    ap (λ (x : ℕ). has x e) b ∙ has-none e
    ∙ sym (ap (λ (x : Bool). ltb e count && (not combination && not x)) q ∙ ap (λ (x : Bool). ltb e count && x) (and-false (not combination)) ∙ and-false (ltb e count))

-- ---- what the calls ask, of an accepted plan

module _ (P : Plan) (sound : Sound P) where
  pub edges_fit : All EdgeFits P.edges
  edges_fit = all_then (SoundEdge P) EdgeFits (λ e h. (h.left, h.right, h.citation)) P.edges sound.edges

  decisions-fit : (c : Cut) → SoundCut P c → All (λ d. d.edge < 64) c.decisions
  decisions-fit c h = all_then (SoundDecision P) (λ d. d.edge < 64) (λ d k. omega (arith, k.edge, sound.edge_limit)) c.decisions h.decisions

  pub cuts_fit : All CutFits P.cuts
  cuts_fit = all_then (SoundCut P) CutFits (λ c h. (h.citation, decisions-fit c h)) P.cuts sound.cuts

  pub precedes-fit : All PrecedesFit P.cuts
  precedes-fit =
      all_then (SoundCut P) PrecedesFit (λ c h. all_then (λ n. n < cut_count P) (λ n. n < 64) (λ n k. omega (arith, sound.cut_limit)) c.precedes h.precedes.1) P.cuts sound.cuts

  pub attachments-fit : All AttachmentFits P.attachments
  attachments-fit = all_then (SoundAttachment P) AttachmentFits (λ a h. (h.anchor, h.citation)) P.attachments sound.attachments

  pub bars-fit : All BarFits P.bars
  bars-fit = all_then (SoundBar P) BarFits (λ b h. h.citation) P.bars sound.bars

  pub statuses-fit : All StatusFits P.statuses
  statuses-fit = all_then (SoundStatus P) StatusFits (λ t h. (h.person, h.citation)) P.statuses sound.statuses

  pub opens-fit : All OpenFits (open_decisions P)
  opens-fit =
      all_then (Named (cut_count P) (edge_count P)) OpenFits (λ o h. (omega (arith, h.0, sound.cut_limit), omega (arith, h.1, sound.edge_limit))) (open_decisions P) (all_named P)

-- ---- chains of precedence, as the plan says them

set_lt : (n : ℕ) (ps : List ℕ) → All (λ p. p < n) ps → set_of ps < 2 ^ n
unfolding set_of
set_lt n [] h = pow_pos n
set_lt n (p ∷ ps) h = union_lt n (one p) (set_of ps) (one_lt n p h.0) (set_lt n ps h.1)

below_lt : (n k : ℕ) (f : ℕ → ℕ) → ((i : ℕ) → i < k → f i < 2 ^ n) → union_below k f < 2 ^ n
unfolding union_below
below_lt n zero f h = pow_pos n
below_lt n (suc k) f h = union_lt n (union_below k f) (f k) (below_lt n k f (λ i l. h i (omega arith))) (h k (omega arith))

only_lt : (n s : ℕ) (b : Bool) → s < 2 ^ n → only b s < 2 ^ n
only_lt n s true h = h
only_lt n s false h = pow_pos n

module _ (P : Plan) (sound : Sound P) (direct : List ℕ) (says : (c : ℕ) → c < cut_count P → entry direct c ≡ set_of (cut P c).precedes) where
  listed_lt : (c : ℕ) → c < cut_count P → set_of (cut P c).precedes < 2 ^ cut_count P
  unfolding cut
  listed_lt c h = set_lt (cut_count P) (cut P c).precedes (all_at (SoundCut P) P.cuts _ c sound.cuts h).precedes.1

  few : (m : ℕ) → m < 2 ^ cut_count P → m < 2 ^ 64
  few m h = lt_of_lt_of_le h (pow-le-pow_right (zero-lt-suc 1) (let l : cut_count P ≤ 64 = omega (arith, sound.cut_limit) in l))

  -- what the cuts of a set precede
  preceding : (m : ℕ) → m < 2 ^ cut_count P → union_of (entry direct) (members m) ≡ union_below (cut_count P) (λ d. only (has m d) (set_of (cut P d).precedes))
  preceding m b =
      antisym (union_of (entry direct) (members m)) (union_below (cut_count P) f)
      (record {
        at = λ q h.
            let w = union-has (entry direct) m q (few m b) h in
            let l = under w.0 w.1 in
            (in_below (cut_count P) f w.0 l).at q ((in_only (has m w.0) _ w.1).at q (ap (λ (x : ℕ). has x q) (sym (says w.0 l)) ∙ w.2));
      })
      (record {
        at = λ q h.
            let w = union_find (cut_count P) f q h in
            let o = of_only (has m w.0) _ q w.2 in
            has-union_of (entry direct) m w.0 q (few m b) o.0 (ap (λ (x : ℕ). has x q) (says w.0 w.1) ∙ o.1);
      })
    where
      f : ℕ → ℕ
      f d = only (has m d) (set_of (cut P d).precedes)

      under : (d : ℕ) → has m d ≡ true → d < cut_count P
      under d h = ⊎_elim (λ k. k) (λ k. absurd (true≢false (sym h ∙ has_high (cut_count P) m d b k))) (lt_or_le d (cut_count P))

  -- step after step the same, and cuts of the plan alone
  steps_same : (k m : ℕ) → m < 2 ^ cut_count P → (chain_by direct k m ≡ fold_below k (λ i. chain_step P) m) × (fold_below k (λ i. chain_step P) m < 2 ^ cut_count P)
  unfolding chain_by fold_below chain_step
  steps_same zero m b = (refl, b)
  steps_same (suc k) m b =
      let ih = steps_same k m b in
      let x = fold_below k (λ i. chain_step P) m in (
        ap (λ (y : ℕ). union y (union_of (entry direct) (members y))) ih.0 ∙ ap (union x) (preceding x ih.1),
        union_lt (cut_count P) x _ ih.1 (below_lt (cut_count P) (cut_count P) (λ d. only (has x d) (set_of (cut P d).precedes)) (λ i l. only_lt (cut_count P) _ (has x i) (listed_lt i l))),
      )

  pub chain-preceded : (c : ℕ) → c < cut_count P → chain_by direct (cut_count P) (entry direct c) ≡ preceded P c
  unfolding preceded
  chain-preceded c h = ap (chain_by direct (cut_count P)) (says c h) ∙ (steps_same (cut_count P) (set_of (cut P c).precedes) (listed_lt c h)).0

-- ---- how cuts stand to each other, as the plan says it

-- what matters only where the first test holds
guarded : (b : Bool) {x y : Bool} → (b ≡ true → x ≡ y) → (b && x) ≡ (b && y)
guarded true h = h refl
guarded false h = refl

truths : (x y : Bool) → (x ≡ true → y ≡ true) → (y ≡ true → x ≡ true) → x ≡ y
truths true y f g = sym (f refl)
truths false true f g = g refl
truths false false f g = refl

meets-has : (a b : ℕ) → meets a b ≡ true → (p : ℕ) × (has a p ≡ true) × (has b p ≡ true)
unfolding meets
meets-has a b e = disjoint-false a b (pick (disjoint a b) e)
  where
    pick : (x : Bool) → not x ≡ true → x ≡ false
    pick true h = sym h
    pick false h = refl

has-meets : (a b p : ℕ) → has a p ≡ true → has b p ≡ true → meets a b ≡ true
unfolding meets
has-meets a b p h k = pick (disjoint a b) refl
  where
    pick : (x : Bool) → disjoint a b ≡ x → not (disjoint a b) ≡ true
    pick true e = absurd (disjoint-true a b e p h k)
    pick false e = ap not e

meets_swap : (a b : ℕ) → meets a b ≡ meets b a
meets_swap a b =
    truths (meets a b) (meets b a) (λ h. let w = meets-has a b h in has-meets b a w.0 w.2 w.1) (λ h. let w = meets-has b a h in has-meets a b w.0 w.2 w.1)

-- a pair meets a set that has one of the two
pair-meets : (l r m : ℕ) → meets (union (one l) (one r)) m ≡ (has m l || has m r)
pair-meets l r m =
    truths (meets (union (one l) (one r)) m) (has m l || has m r)
    (λ h.
    let w = meets-has (union (one l) (one r)) m h in
    ⊎_elim (λ k. ap (λ (b : Bool). b || has m r) (there l w.0 k w.2)) (λ k. ap (λ (b : Bool). has m l || b) (there r w.0 k w.2) ∙ or-true (has m l)) (of_union (one l) (one r) w.0 w.1))
    (λ h.
    ⊎_elim (λ k. has-meets (union (one l) (one r)) m l ((in_union_l (one l) (one r)).at l (in_one l)) k)
    (λ k. has-meets (union (one l) (one r)) m r ((in_union_r (one l) (one r)).at r (in_one r)) k) (either (has m l) (has m r) h))
  where
    there : (p q : ℕ) → has (one p) q ≡ true → has m q ≡ true → has m p ≡ true
    there p q k h = ap (has m) (eqb-true p q (sym (has_one p q) ∙ k)) ∙ h

    either : (x y : Bool) → (x || y) ≡ true → (x ≡ true) ⊎ (y ≡ true)
    either true y e = inl refl
    either false y e = inr e

-- it meets the set and what is outside where the set has just one of the two
pair-crosses : (l r m : ℕ) → l < 64 → r < 64 → m < 2 ^ 64
    → (meets (union (one l) (one r)) m && meets (union (one l) (one r)) ((2 ^ 64 - 1) - m)) ≡ not (beq (has m l) (has m r))
pair-crosses l r m h k b =
    ap₂ ◌&&◌ (pair-meets l r m) (pair-meets l r ((2 ^ 64 - 1) - m) ∙ ap₂ ◌||◌ (has-not 64 m l b h) (has-not 64 m r b k)) ∙ pick (has m l) (has m r)
  where
    pick : (x y : Bool) → ((x || y) && (not x || not y)) ≡ not (beq x y)
    pick true true = refl
    pick true false = refl
    pick false true = refl
    pick false false = refl

edge-crosses : (P : Plan) → Sound P → (c e : ℕ) → c < cut_count P → e < edge_count P
    → (meets (pair P e) (cut P c).members && meets (pair P e) ((2 ^ 64 - 1) - (cut P c).members)) ≡ one_end (cut P c) (edge P e)
unfolding pair edge cut
edge-crosses P sound c e h l =
    let s = all_at (SoundEdge P) P.edges _ e sound.edges l in
    pair-crosses (edge P e).left (edge P e).right (cut P c).members s.left s.right (all_at (SoundCut P) P.cuts _ c sound.cuts h).members

module _ (P : Plan) (sound : Sound P) (all combination : ℕ) (chains : List ℕ) (before after : List (List ℕ))
    (every : (i : ℕ) → has all i ≡ ltb i (cut_count P)) (joint : (e : ℕ) → has combination e ≡ (ltb e (edge_count P) && (edge P e).combination))
    (orders : (c : ℕ) → c < cut_count P → entry chains c ≡ preceded P c) (own : (c : ℕ) → c < cut_count P → row before 1 c ≡ (cut P c).members)
    (ends : (e : ℕ) → e < edge_count P → row before 0 e ≡ pair P e) (related : CutsRelated chains all combination before after) where
  at : (c : ℕ) → c < cut_count P → RelatedAt chains c all combination before after
  at c h = related.each c (every c ∙ lt-ltb c (cut_count P) h)

  -- a test of the members of two cuts, the second by number
  beside : (f g : ℕ → ℕ → Bool) → ((x y : ℕ) → f x y ≡ g x y) → (c d : ℕ) → c < cut_count P
      → (has all d && f (row before 1 c) (row before 1 d)) ≡ (ltb d (cut_count P) && g (cut P c).members (cut P d).members)
  beside f g same c d h =
      ap (λ (b : Bool). b && f (row before 1 c) (row before 1 d)) (every d)
      ∙ guarded (ltb d (cut_count P)) (λ e. ap₂ f (own c h) (own d (ltb-true d (cut_count P) e)) ∙ same (cut P c).members (cut P d).members)

  pub twins_stand : (c d : ℕ) → c < cut_count P → has (row after 2 c) d ≡ (ltb d (cut_count P) && same_members P c d)
  twins_stand c d h = (at c h).twins d ∙ beside eqb eqb (λ x y. refl) c d h

  pub lower_stand : (c d : ℕ) → c < cut_count P → has (row after 3 c) d ≡ (ltb d c && same_members P c d)
  lower_stand c d h = (at c h).lower d ∙ ap (λ (b : Bool). b && ltb d c) (beside eqb eqb (λ x y. refl) c d h) ∙ pick (ltb d c) refl
    where
      pick : (b : Bool) → ltb d c ≡ b → ((ltb d (cut_count P) && same_members P c d) && ltb d c) ≡ (ltb d c && same_members P c d)
      pick true e =
          ap₂ (λ (x y : Bool). (x && same_members P c d) && y) (lt-ltb d (cut_count P) (omega (arith, ltb-true d c e))) e ∙ and-true (same_members P c d)
          ∙ sym (ap (λ (b : Bool). b && same_members P c d) e)
      pick false e = ap (λ (b : Bool). (ltb d (cut_count P) && same_members P c d) && b) e ∙ and-false (ltb d (cut_count P) && same_members P c d) ∙ sym (ap (λ (b : Bool). b && same_members P c d) e)

  shared : (c d : ℕ) → c < cut_count P → (has all d && meets (row before 1 d) (row before 1 c)) ≡ (ltb d (cut_count P) && sharing P c d)
  shared c d h = beside (λ x y. meets y x) meets (λ x y. meets_swap y x) c d h

  -- a further test of two cuts that share a person
  more : (c d : ℕ) {x y : Bool} → c < cut_count P → (d < cut_count P → x ≡ y)
      → ((has all d && meets (row before 1 d) (row before 1 c)) && x) ≡ (ltb d (cut_count P) && (sharing P c d && y))
  more c d {x} {y} h k =
      ap (λ (b : Bool). b && x) (shared c d h) ∙ and_assoc (ltb d (cut_count P)) (sharing P c d) x
      ∙ guarded (ltb d (cut_count P)) (λ e. ap (λ (b : Bool). sharing P c d && b) (k (ltb-true d (cut_count P) e)))

  pub droppers_stand : (c d : ℕ) → c < cut_count P → has (row after 4 c) d ≡ (ltb d (cut_count P) && (sharing P c d && (precedes P d c && not (precedes P c d))))
  droppers_stand c d h = (at c h).droppers d ∙ more c d h (λ l. ap₂ (λ (x y : ℕ). has x c && not (has y d)) (orders d l) (orders c h))

  pub clashing_stand : (c d : ℕ) → c < cut_count P → has (row after 5 c) d ≡ (ltb d (cut_count P) && (sharing P c d && not (same_members P c d)))
  clashing_stand c d h = (at c h).clashing d ∙ more c d h (λ l. ap₂ (λ (x y : ℕ). not (eqb x y)) (own c h) (own d l))

  pub later_stand : (c d : ℕ) → c < cut_count P → has (row after 6 c) d ≡ (ltb d (cut_count P) && (sharing P c d && rising_less (cut P c).members (cut P d).members))
  later_stand c d h = (at c h).later d ∙ more c d h (λ l. ap₂ rising_less (own c h) (own d l))

  pub crossing_stand : (c e : ℕ) → c < cut_count P → has (row after 7 c) e ≡ (ltb e (edge_count P) && ((edge P e).combination && one_end (cut P c) (edge P e)))
  crossing_stand c e h =
      (at c h).crossing e
      ∙ ap (λ (b : Bool). (b && meets (row before 0 e) (row before 1 c)) && meets (row before 0 e) ((2 ^ 64 - 1) - row before 1 c)) (joint e)
      ∙ group (ltb e (edge_count P)) (edge P e).combination _ _
      ∙ guarded (ltb e (edge_count P)) (λ k. ap (λ (b : Bool). (edge P e).combination && b) (crossed (ltb-true e (edge_count P) k)))
    where
      group : (w x y z : Bool) → (((w && x) && y) && z) ≡ (w && (x && (y && z)))
      group w x y z = ap (λ (b : Bool). b && z) (and_assoc w x y) ∙ and_assoc w (x && y) z ∙ ap (λ (b : Bool). w && b) (and_assoc x y z)

      crossed : e < edge_count P → (meets (row before 0 e) (row before 1 c) && meets (row before 0 e) ((2 ^ 64 - 1) - row before 1 c)) ≡ one_end (cut P c) (edge P e)
      crossed l = ap₂ (λ (x y : ℕ). meets x y && meets x ((2 ^ 64 - 1) - y)) (ends e l) (own c h) ∙ edge-crosses P sound c e h l

-- ---- the tables whole

-- a row that is put where there is none is empty as well
pub emptied : (t : List (List ℕ)) (k n c : ℕ) → row (set t k (replicate n 0)) k c ≡ 0
emptied [] zero n c = refl
emptied [] (suc k) n c = refl
emptied (x ∷ xs) zero n c = filled_at n c 0
emptied (x ∷ xs) (suc k) n c = emptied xs k n c

module _ (plan : Coded) (undecided : Undecided) (roster all combination steps : ℕ) (direct chains rules influence : List ℕ) (t₁ t₂ t₃ t₄ t₅ t₆ t₇ t₈ t₉ : List (List ℕ))
    (sound : Sound (plan_of plan)) (opens : opens_of undecided ≡ open_decisions (plan_of plan)) (none : (c : ℕ) → row t₁ 9 c ≡ 0)
    (edges : EdgesLaid plan.edges t₁ t₂) (cuts : CutsLaid plan.cuts t₂ t₃) (attachments : AttachmentsLaid plan.attachments t₃ t₄) (bars : BarsLaid plan.bars t₄ t₅)
    (statuses : StatusesLaid plan.statuses t₅ t₆) (decisions : DecisionsLaid undecided t₆ t₇)
    (listed : Preceding plan.cuts direct) (chained : Chained direct all steps chains) (several : steps ≡ cut_count (plan_of plan))
    (every : (i : ℕ) → has all i ≡ ltb i (cut_count (plan_of plan))) (joint : Combination plan.edges combination)
    (related : CutsRelated chains all combination t₇ t₈) (spreads : SpreadLaid rules influence roster t₈ t₉) where
  abbrev P : Plan
  P = plan_of plan

  the_edges : P.edges ≡ edges_of plan.edges
  unfolding plan_of
  the_edges = refl

  the_cuts : P.cuts ≡ cuts_of plan.cuts
  unfolding plan_of
  the_cuts = refl

  the_attachments : P.attachments ≡ attachments_of plan.attachments
  unfolding plan_of
  the_attachments = refl

  the_bars : P.bars ≡ bars_of plan.bars
  unfolding plan_of
  the_bars = refl

  the_statuses : P.statuses ≡ statuses_of plan.statuses
  unfolding plan_of
  the_statuses = refl

  -- rows that the last calls leave
  from_seven : (k i : ℕ) → any_of (eqb k) (2 ∷ 3 ∷ 4 ∷ 5 ∷ 6 ∷ 7 ∷ []) ≡ false → any_of (eqb k) (15 ∷ []) ≡ false → row t₉ k i ≡ row t₇ k i
  from_seven k i h l = spreads.same.at k i l ∙ related.same.at k i h

  from_six : (k i : ℕ) → any_of (eqb k) (10 ∷ 9 ∷ []) ≡ false → any_of (eqb k) (2 ∷ 3 ∷ 4 ∷ 5 ∷ 6 ∷ 7 ∷ []) ≡ false → any_of (eqb k) (15 ∷ []) ≡ false → row t₉ k i ≡ row t₆ k i
  from_six k i d h l = from_seven k i h l ∙ decisions.same.at k i d

  pairs_seven : (e : ℕ) → e < edge_count P → row t₇ 0 e ≡ pair P e
  unfolding any_of
  pairs_seven e h =
      decisions.same.at 0 e refl ∙ statuses.same.at 0 e refl ∙ bars.same.at 0 e refl ∙ attachments.same.at 0 e refl ∙ cuts.same.at 0 e refl ∙ (edges.pairs P the_edges).at e h

  members_seven : (c : ℕ) → c < cut_count P → row t₇ 1 c ≡ (cut P c).members
  unfolding any_of
  members_seven c h =
      decisions.same.at 1 c refl ∙ statuses.same.at 1 c refl ∙ bars.same.at 1 c refl ∙ attachments.same.at 1 c refl ∙ (cuts.members P the_cuts).at c h

  orders : (c : ℕ) → c < cut_count P → entry chains c ≡ preceded P c
  orders c h =
      chained.at c (every c ∙ lt-ltb c (cut_count P) h) ∙ ap (λ (n : ℕ). chain_by direct n (entry direct c)) several
      ∙ chain-preceded P sound direct (λ d l. listed.at P the_cuts d l) c h

  left : (k c d : ℕ) {x : Bool} → any_of (eqb k) (15 ∷ []) ≡ false → has (row t₈ k c) d ≡ x → has (row t₉ k c) d ≡ x
  left k c d l h = ap (λ (m : ℕ). has m d) (spreads.same.at k c l) ∙ h

  -- THE ROWS STAND FOR THE PLAN
  pub tables_stand : (I : Influence) (k : Common) → rules ≡ rule_sets P → I.facts ++ I.decisions ≡ influence → roster < 2 ^ 64 → CommonFor plan roster k
      → subset (rule_persons P) roster ≡ true → Stands P I k t₉
  unfolding any_of spread
  tables_stand I k r i bound common named =
      let b : (e : ℕ) → has combination e ≡ (ltb e (edge_count P) && (edge P e).combination) = joint.at P the_edges in
      record {
        sound = sound;
        roster = subst (λ (m : ℕ). m < 2 ^ 64) (sym common.people) bound;
        named = ap (subset (rule_persons P)) common.people ∙ named;
        base = common.base;
        attachments = common.attachments;
        bars = common.bars;
        statuses = common.statuses;
        pairs = λ e h. from_seven 0 e refl refl ∙ pairs_seven e h;
        members = λ c h. from_seven 1 c refl refl ∙ members_seven c h;
        twins = λ c d h. left 2 c d refl (twins_stand P sound all combination chains t₇ t₈ every b orders members_seven pairs_seven related c d h);
        lower = λ c d h. left 3 c d refl (lower_stand P sound all combination chains t₇ t₈ every b orders members_seven pairs_seven related c d h);
        droppers = λ c d h. left 4 c d refl (droppers_stand P sound all combination chains t₇ t₈ every b orders members_seven pairs_seven related c d h);
        clashing = λ c d h. left 5 c d refl (clashing_stand P sound all combination chains t₇ t₈ every b orders members_seven pairs_seven related c d h);
        later = λ c d h. left 6 c d refl (later_stand P sound all combination chains t₇ t₈ every b orders members_seven pairs_seven related c d h);
        crossing = λ c e h. left 7 c e refl (crossing_stand P sound all combination chains t₇ t₈ every b orders members_seven pairs_seven related c e h);
        said = λ c e h. ap (λ (m : ℕ). has m e) (from_six 8 c refl refl refl ∙ statuses.same.at 8 c refl ∙ bars.same.at 8 c refl ∙ attachments.same.at 8 c refl)
            ∙ cuts.said P the_cuts c e h;
        opens = λ c d h. ap (λ (m : ℕ). has m d) (from_seven 9 c refl refl)
            ∙ decisions.opens P (sym opens) (λ x. statuses.same.at 9 x refl ∙ bars.same.at 9 x refl ∙ attachments.same.at 9 x refl ∙ cuts.same.at 9 x refl ∙ edges.same.at 9 x refl ∙ none x) c d;
        open_edges = λ d h. from_seven 10 d refl refl ∙ (decisions.edges P (sym opens)).at d h;
        movers = λ n h. from_six 11 n refl refl refl ∙ statuses.same.at 11 n refl ∙ bars.same.at 11 n refl ∙ (attachments.movers P the_attachments).at n h;
        anchors = λ n h. from_six 12 n refl refl refl ∙ statuses.same.at 12 n refl ∙ bars.same.at 12 n refl ∙ (attachments.anchors P the_attachments).at n h;
        barred = λ n h. from_six 13 n refl refl refl ∙ statuses.same.at 13 n refl ∙ (bars.members P the_bars).at n h;
        persons = λ n h. from_six 14 n refl refl refl ∙ (statuses.persons P the_statuses).at n h;
        spreads = λ p h. spreads.at p (ap (λ (m : ℕ). has m p) (sym common.people) ∙ h) ∙ ap₂ (λ (rs is : List ℕ). close_of rs (close_of is (one p))) r (sym i);
        edge_cites = λ e h. from_six 16 e refl refl refl ∙ statuses.same.at 16 e refl ∙ bars.same.at 16 e refl ∙ attachments.same.at 16 e refl ∙ cuts.same.at 16 e refl
            ∙ (edges.cites P the_edges).at e h;
        cut_cites = λ c h. from_six 17 c refl refl refl ∙ statuses.same.at 17 c refl ∙ bars.same.at 17 c refl ∙ attachments.same.at 17 c refl ∙ (cuts.cites P the_cuts).at c h;
        attachment_cites = λ n h. from_six 18 n refl refl refl ∙ statuses.same.at 18 n refl ∙ bars.same.at 18 n refl ∙ (attachments.cites P the_attachments).at n h;
        bar_cites = λ n h. from_six 19 n refl refl refl ∙ statuses.same.at 19 n refl ∙ (bars.cites P the_bars).at n h;
        status_cites = λ n h. from_six 20 n refl refl refl ∙ (statuses.cites P the_statuses).at n h;
      }
