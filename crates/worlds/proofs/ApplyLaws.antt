-- Merged cuts read off the tables: which are applied, and which overlap another with other members.
use mathlib.Core.Path.{◌≡◌, refl, sym, ap, ap₂, ◌∙◌}
use mathlib.Core.Bool.{Bool, true, false, ◌&&◌, not, beq, false≢true}
use mathlib.Core.List.{List}
use mathlib.Core.Logic.{◌⊎◌, inl, inr}
use Prim.Native.Nat.{ℕ, ◌^◌, ◌<◌}
use lib.Dec.{eqb, ltb}
use borrow.Author.Tests.{ltb-true, lt-ltb, eqb-true, eqb-false, eq-eqb, ne_eqb, not-true}
use Rattle.sets.specs.paper.Sets.{has, one, disjoint, meets, union, minus, only, members, any_below}
use Rattle.records.specs.paper.Plan.{Plan, one_end}
use Rattle.sets.proofs.SetLaws.{has-none, has-minus, has_one, in_union_l, in_union_r, member, meeting, disjoint-false, and_parts}
use Rattle.sets.proofs.LoopLaws.{get_or-below}
use Rattle.sets.proofs.BelowLaws.{flag-set, of_only, in_only}
use Rattle.sets.proofs.Local.{which, clash}
use Rattle.expressions.specs.paper.Rules.{edge_count, cut_count, edge, cut, pair}
use Rattle.expressions.specs.paper.Nodes.{on}
use Rattle.expressions.specs.paper.Variables.{Influence}
use Rattle.worlds.specs.paper.Active as paper
use Rattle.worlds.specs.paper.World.{about, same_members, standing, overlapping_cut, overlapping_cuts, blocked_by, blocked_cut, applied_cuts}
use Rattle.worlds.specs.code.Tables.{row, Stands, TellsActive}
use Rattle.worlds.specs.code.Cuts.{blockers, blocked_twins}
use Rattle.worlds.specs.declared.tables.Common.{Common}
use Rattle.worlds.specs.declared.tables.Active.{Active}
use Rattle.worlds.proofs.FindLaws.{same_answer, not_so, any_in, any_find, union_any, few-low}
use Rattle.worlds.proofs.CutLaws.{cuts-few, tells_below, blockers-told}

pub meets_at : (a b q : ℕ) → has a q ≡ true → has b q ≡ true → meets a b ≡ true
unfolding meets
meets_at a b q h k = ap not (meeting a b q h k)

pub meets_find : (a b : ℕ) → meets a b ≡ true → (q : ℕ) × (has a q ≡ true) × (has b q ≡ true)
unfolding meets
meets_find a b h = disjoint-false a b (not-true (disjoint a b) h)

pub meets_swap : (a b : ℕ) → meets a b ≡ true → meets b a ≡ true
meets_swap a b h = let w = meets_find a b h in meets_at b a w.0 w.2 w.1

module _ (P : Plan) where
  abbrev n : ℕ
  n = cut_count P

  abbrev ms : ℕ → ℕ
  ms c = (cut P c).members

  -- an edge that crosses a cut has an end in it
  crossing_end : (c e : ℕ) → one_end (cut P c) (edge P e) ≡ true → (q : ℕ) × (has (ms c) q ≡ true) × (has (pair P e) q ≡ true)
  unfolding pair
  crossing_end c e h = pick (which (has (ms c) (edge P e).left)) (which (has (ms c) (edge P e).right))
    where
      l : ℕ
      l = (edge P e).left

      r : ℕ
      r = (edge P e).right

      self : (q : ℕ) → has (one q) q ≡ true
      self q = has_one q q ∙ eq-eqb q q refl

      pick : (has (ms c) l ≡ true) ⊎ (has (ms c) l ≡ false) → (has (ms c) r ≡ true) ⊎ (has (ms c) r ≡ false)
          → (q : ℕ) × (has (ms c) q ≡ true) × (has (union (one l) (one r)) q ≡ true)
      pick (inl x) y = (l, x, (in_union_l (one l) (one r)).at l (self l))
      pick (inr x) (inl y) = (r, y, (in_union_r (one l) (one r)).at r (self r))
      pick (inr x) (inr y) = absurd (false≢true (sym (ap₂ (λ (u v : Bool). not (beq u v)) x y) ∙ h))

  module _ (kept : List Bool) where
    -- a kept cut that meets one with other members
    abbrev meets_other : ℕ → Bool
    meets_other m = about n ms m (λ d. on kept d && not (eqb m (ms d)))

    pub overlapping_at : (c : ℕ) → c < n → on (overlapping_cuts P kept) c ≡ (on kept c && meets_other (ms c))
    unfolding overlapping_cuts overlapping_cut
    overlapping_at c l = get_or-below n (overlapping_cut P kept) false c l

    pub overlap-parts : (c : ℕ) → on (overlapping_cuts P kept) c ≡ true → (c < n) × (on kept c ≡ true) × (meets_other (ms c) ≡ true)
    unfolding overlapping_cuts overlapping_cut
    overlap-parts c h =
        let f = flag-set n (overlapping_cut P kept) c h in
        let z = and_parts (on kept c) (meets_other (ms c)) f.1 in
        (f.0, z.0, z.1)

    -- merged cuts that are kept overlap together
    pub overlap_twin : (c d : ℕ) → d < n → on (overlapping_cuts P kept) c ≡ true → on kept d ≡ true → ms c ≡ ms d → on (overlapping_cuts P kept) d ≡ true
    overlap_twin c d l h k e = overlapping_at d l ∙ ap₂ ◌&&◌ k (ap meets_other (sym e) ∙ (overlap-parts c h).2)

    pub overlap_two : (c d : ℕ) → c < n → d < n → on kept c ≡ true → on kept d ≡ true → meets (ms c) (ms d) ≡ true → (ms c ≡ ms d → ⊥) → on (overlapping_cuts P kept) c ≡ true
    unfolding about
    overlap_two c d l r h k m e = overlapping_at c l ∙ ap₂ ◌&&◌ h (any_in n _ d r (ap₂ ◌&&◌ m (ap₂ (λ (x y : Bool). x && not y) k (ne_eqb (ms c) (ms d) e))))

  pub blocked-parts : (a : paper.Active) (c e : ℕ) → blocked_by P a c e ≡ true → (on a.frozen e ≡ true) × (one_end (cut P c) (edge P e) ≡ true)
  unfolding blocked_by
  blocked-parts a c e h =
      let z = and_parts (on a.frozen e && (edge P e).combination) _ h in
      ((and_parts (on a.frozen e) (edge P e).combination z.0).0, (and_parts (one_end (cut P c) (edge P e)) _ z.1).0)

-- ---- the cuts that are left when blocked ones and those merged with them are out

module _ (P : Plan) (I : Influence) (k : Common) (t : List (List ℕ)) (S : Stands P I k t) (a : paper.Active) (f : Active) (T : TellsActive P a f)
    (kept : List Bool) (low : (c : ℕ) → on kept c ≡ true → c < cut_count P)
    (st : ℕ) (told : (c : ℕ) → has st c ≡ standing kept (overlapping_cuts P kept) c) where
  abbrev over : List Bool
  over = overlapping_cuts P kept

  abbrev mc : ℕ → ℕ
  mc c = (cut P c).members

  abbrev bs : ℕ → ℕ
  bs c = blockers t f.frozen f.decisions c

  abbrev out : ℕ
  out = blocked_twins t f.frozen f.decisions (members st)

  parts : (c : ℕ) → has st c ≡ true → (on kept c ≡ true) × (on over c ≡ false)
  parts c h =
      let z = and_parts (on kept c) (not (on over c)) (sym (told c) ∙ h) in
      (z.0, not-true (on over c) z.1)

  st_low : st < 2 ^ 64
  st_low = few-low (cut_count P) st (cuts-few P I k t S) (λ c h. low c (parts c h).0)

  twins-block : (c : ℕ) → c < cut_count P → has st c ≡ true → has out c ≡ blocked_cut P a kept c
  unfolding blocked_twins blocked_cut about
  twins-block c lc hc = union_any twins_if st c (cut_count P) test st_low (λ d. same_answer (has st d && has (twins_if d) c) (ltb d (cut_count P) && test d) (there d) (back d))
    where
      twins_if : ℕ → ℕ
      twins_if d = only (not (eqb (bs d) 0)) (row t 2 d)

      by_edge_lem : ℕ → ℕ → Bool
      by_edge_lem d e = meets (mc d) (pair P e) && blocked_by P a d e

      test : ℕ → Bool
      test d = meets (mc c) (mc d) && (on kept d && (same_members P c d && any_below (edge_count P) (by_edge_lem d)))

      there : (d : ℕ) → (has st d && has (twins_if d) c) ≡ true → (ltb d (cut_count P) && test d) ≡ true
      there d h =
          let z = and_parts (has st d) (has (twins_if d) c) h in
          let s = parts d z.0 in
          let l = low d s.0 in
          let o = of_only (not (eqb (bs d) 0)) (row t 2 d) c z.1 in
          let w = member (bs d) (eqb-false (bs d) 0 (not-true (eqb (bs d) 0) o.0)) in
          let b = sym (blockers-told P I k t S a f T d w.0 l) ∙ w.1 in
          let r = blocked-parts P a d w.0 b in
          let x = crossing_end P d w.0 r.1 in
          let same = eqb-true (mc d) (mc c) (and_parts (ltb c (cut_count P)) (same_members P d c) (sym (S.twins d c l) ∙ o.1)).1 in
          ap₂ ◌&&◌ (lt-ltb d (cut_count P) l)
          (ap₂ ◌&&◌ (meets_at (mc c) (mc d) x.0 (sym (ap (λ (m : ℕ). has m x.0) same) ∙ x.1) x.1)
          (ap₂ ◌&&◌ s.0 (ap₂ ◌&&◌ (eq-eqb (mc c) (mc d) (sym same))
          (any_in (edge_count P) (by_edge_lem d) w.0 (T.edges_below w.0 r.0) (ap₂ ◌&&◌ (meets_at (mc d) (pair P w.0) x.0 x.1 x.2) b)))))

      back : (d : ℕ) → (ltb d (cut_count P) && test d) ≡ true → (has st d && has (twins_if d) c) ≡ true
      back d h =
          let y = and_parts (ltb d (cut_count P)) (test d) h in
          let l = ltb-true d (cut_count P) y.0 in
          let u = and_parts (meets (mc c) (mc d)) _ y.1 in
          let v = and_parts (on kept d) _ u.1 in
          let x = and_parts (same_members P c d) _ v.1 in
          let same = eqb-true (mc c) (mc d) x.0 in
          let w = any_find (edge_count P) (by_edge_lem d) x.1 in
          let b = blockers-told P I k t S a f T d w.0 l ∙ (and_parts (meets (mc d) (pair P w.0)) (blocked_by P a d w.0) w.2).1 in
          let s = parts c hc in
          ap₂ ◌&&◌
          (told d ∙ ap₂ (λ (x y : Bool). x && not y) v.0 (not_so (on over d) (λ o. clash (overlap_twin P kept d c lc o s.0 (sym same)) s.1)))
          ((in_only (not (eqb (bs d) 0)) (row t 2 d) (ap not (ne_eqb (bs d) 0 (λ z. clash b (ap (λ (m : ℕ). has m w.0) z ∙ has-none w.0))))).at c
          (S.twins d c l ∙ ap₂ ◌&&◌ (lt-ltb c (cut_count P) lc) (eq-eqb (mc d) (mc c) (sym same))))

  pub applied-told : (r : ℕ) → r ≡ minus st out → (c : ℕ) → has r c ≡ on (applied_cuts P a kept over) c
  unfolding applied_cuts
  applied-told r e =
      tells_below (cut_count P) r (λ c. standing kept over c && not (blocked_cut P a kept c))
      (λ c h. low c (parts c (and_parts (has st c) (not (has out c)) (sym (is c) ∙ h)).0).0) (λ c l. is c ∙ pick c l (which (has st c)))
    where
      is : (c : ℕ) → has r c ≡ (has st c && not (has out c))
      is c = ap (λ (m : ℕ). has m c) e ∙ has-minus st out c

      pick : (c : ℕ) → c < cut_count P → (has st c ≡ true) ⊎ (has st c ≡ false) → (has st c && not (has out c)) ≡ (standing kept over c && not (blocked_cut P a kept c))
      pick c l (inl h) = ap₂ (λ (x y : Bool). x && not y) (told c) (twins-block c l h)
      pick c l (inr h) = ap (λ (x : Bool). x && not (has out c)) h ∙ sym (ap (λ (x : Bool). x && not (blocked_cut P a kept c)) (sym (told c) ∙ h))
