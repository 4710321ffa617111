-- The blocks of step 6 are a partition of the roster's unmarked persons.
use mathlib.Core.Path.{◌≡◌, refl, sym, ap, ap₂, ◌∙◌}
use mathlib.Core.Bool.{Bool, true, false, ◌&&◌, not, cond, true≢false, false≢true}
use mathlib.Core.List.{List}
use Prim.Native.Nat.{ℕ, ◌<◌, ◌^◌}
use lib.ListN.{get_or}
use borrow.Author.Tests.{eqb-true, not-true, not-false}
use Rattle.sets.specs.paper.Sets.{has, one, minus, only, meets, subset, close_of, below, any_below}
use Rattle.records.specs.paper.Plan.{Plan}
use Rattle.sets.proofs.SetLaws.{Within, has-none, has-minus, has_high, antisym, thru, in_minus, of_minus, empty, subset-true, meeting, and_parts}
use Rattle.sets.proofs.Closing.{Closed, close_closed, close_within, close_least, close_sym, in_one, one-within}
use Rattle.sets.proofs.LoopLaws.{get_or-below}
use Rattle.sets.proofs.BelowLaws.{any_false, union_find, in_below, of_only, in_only, flag-set, get_or-below_all, closed-below}
use Rattle.expressions.specs.paper.Rules.{edge_count, cut_count, cut, pair}
use Rattle.expressions.specs.paper.Nodes.{on}
use Rattle.worlds.specs.paper.Active.{Active}
use Rattle.worlds.specs.paper.World.{State, block_of, about, same_members, standing, overlapping_cut, overlapping_cuts, blocked_cut, applied_cuts, cut_members, applied_to, rest_sets, first_block, first_state}

-- ---- a person's component

-- who is in mine has mine
pub close_class : (ss : List ℕ) (p q : ℕ) → has (close_of ss (one p)) q ≡ true → close_of ss (one q) ≡ close_of ss (one p)
close_class ss p q h =
    antisym (close_of ss (one q)) (close_of ss (one p)) (part q p h) (part p q (close_sym ss p q h))
  where
    part : (q p : ℕ) → has (close_of ss (one p)) q ≡ true → Within (close_of ss (one q)) (close_of ss (one p))
    part q p h = close_least ss (one q) (close_of ss (one p)) (one-within q (close_of ss (one p)) h) (close_closed ss (one p))

-- ---- applied cuts that share a person have the same members

module _ (P : Plan) (a : Active) (kept : List Bool) where
  abbrev pub applied : List Bool
  applied = applied_cuts P a kept (overlapping_cuts P kept)

  pub applied-parts : (c : ℕ) → on applied c ≡ true → (c < cut_count P) × (on kept c ≡ true) × (overlapping_cut P kept c ≡ false)
  unfolding applied_cuts overlapping_cuts
  applied-parts c e =
      let f = flag-set (cut_count P) (λ c. standing kept (overlapping_cuts P kept) c && not (blocked_cut P a kept c)) c e in
      let s = and_parts (standing kept (overlapping_cuts P kept) c) (not (blocked_cut P a kept c)) f.1 in
      let k = and_parts (on kept c) (not (on (overlapping_cuts P kept) c)) s.0 in
      (f.0, k.0, sym (get_or-below (cut_count P) (overlapping_cut P kept) false c f.0) ∙ not-true (on (overlapping_cuts P kept) c) k.1)

  pub cuts-same : (c d q : ℕ) → on applied c ≡ true → on applied d ≡ true → has (cut P c).members q ≡ true → has (cut P d).members q ≡ true
      → (cut P c).members ≡ (cut P d).members
  unfolding overlapping_cut about meets
  cuts-same c d q x y h k =
      let u = applied-parts c x in
      let v = applied-parts d y in
      let none = any_false (cut_count P) other (sym (ap (λ (b : Bool). b && any_below (cut_count P) other) u.1) ∙ u.2) d v.0 in
      let same = same_members P c d in
      eqb-true mc md (not-false same (sym (ap₂ (λ (s t : Bool). not s && (t && not same)) (meeting mc md q h k) v.1) ∙ none))
    where
      mc : ℕ
      mc = (cut P c).members

      md : ℕ
      md = (cut P d).members

      other : ℕ → Bool
      other d = meets mc (cut P d).members && (on kept d && not (same_members P c d))

  -- a person of an applied cut has its members, and nobody else's
  pub applied_to_lem : (c p : ℕ) → on applied c ≡ true → has (cut P c).members p ≡ true → applied_to P applied p ≡ (cut P c).members
  unfolding applied_to
  applied_to_lem c p x h =
      antisym (applied_to P applied p) (cut P c).members (record { at = found })
      (thru (in_only (on applied c && has (cut P c).members p) (cut P c).members (ap₂ ◌&&◌ x h)) (in_below (cut_count P) part c (applied-parts c x).0))
    where
      part : ℕ → ℕ
      part d = only (on applied d && has (cut P d).members p) (cut P d).members

      found : (q : ℕ) → has (applied_to P applied p) q ≡ true → has (cut P c).members q ≡ true
      found q e =
          let r = union_find (cut_count P) part q e in
          let d = r.0 in
          let t = of_only (on applied d && has (cut P d).members p) (cut P d).members q r.2 in
          let w = and_parts (on applied d) (has (cut P d).members p) t.0 in
          ap (λ (m : ℕ). has m q) (cuts-same c d p x w.0 h w.1) ∙ t.1

  pub of_cuts : (p : ℕ) → has (cut_members P applied) p ≡ true → (c : ℕ) × (on applied c ≡ true) × (has (cut P c).members p ≡ true)
  unfolding cut_members
  of_cuts p e =
      let r = union_find (cut_count P) (λ c. only (on applied c) (cut P c).members) p e in
      let t = of_only (on applied r.0) (cut P r.0).members p r.2 in
      (r.0, t.0, t.1)

  pub in_cuts : (c : ℕ) → on applied c ≡ true → Within (cut P c).members (cut_members P applied)
  unfolding cut_members
  in_cuts c x =
      thru (in_only (on applied c) (cut P c).members x)
      (in_below (cut_count P) (λ c. only (on applied c) (cut P c).members) c (applied-parts c x).0)

-- ---- what holds of the blocks: `live` are the roster's unmarked persons

pub record Blocks (live : ℕ) (s : State) : Type 0 where
  pub self : (p : ℕ) → has live p ≡ true → has (block_of s p) p ≡ true
  pub owner : (p q : ℕ) → has (block_of s p) q ≡ true → has live p ≡ true
  pub alive : (p q : ℕ) → has (block_of s p) q ≡ true → has live q ≡ true
  pub agreed : (p q : ℕ) → has (block_of s p) q ≡ true → block_of s q ≡ block_of s p

-- whoever is not live is in no block
pub out_of_blocks : (live : ℕ) (s : State) → Blocks live s → (p : ℕ) → has live p ≡ false → block_of s p ≡ 0
out_of_blocks live s B p e = empty (block_of s p) (λ q h. true≢false (sym (B.owner p q h) ∙ e))

-- ---- the blocks of step 6

module _ (P : Plan) (roster marks : ℕ) (a : Active) (kept : List Bool) (fits : roster < 2 ^ 64)
    (inside : (c : ℕ) → Within (cut P c).members roster) where
  abbrev pub live : ℕ
  live = minus roster marks

  abbrev pub cuts : ℕ
  cuts = cut_members P (applied P a kept)

  abbrev pub rest : ℕ
  rest = minus live cuts

  abbrev pub sets : List ℕ
  sets = rest_sets P a rest

  abbrev pub first : ℕ → ℕ
  first p = first_block P roster marks (applied P a kept) sets p

  -- by who is live and who is in a cut
  pub first_by : (p : ℕ) (l c : Bool) → has live p ≡ l → has cuts p ≡ c
      → first p ≡ only l (cond c (minus (applied_to P (applied P a kept) p) marks) (close_of sets (one p)))
  unfolding first_block
  first_by p l c x y =
      ap₂ (λ (u v : Bool). only u (cond v (minus (applied_to P (applied P a kept) p) marks) (close_of sets (one p)))) (sym (has-minus roster marks p) ∙ x) y

  rest-closed : Closed sets rest
  unfolding rest_sets
  rest-closed = closed-below (edge_count P) (λ i. only (on a.frozen i && subset (pair P i) rest) (pair P i)) rest (λ i p h k. record {
    at = λ q e.
        let t = of_only (on a.frozen i && subset (pair P i) rest) (pair P i) q e in
        (subset-true (pair P i) rest (and_parts (on a.frozen i) (subset (pair P i) rest) t.0).1).at q t.1;
  })

  -- a live person's block at the start
  record Start (p : ℕ) : Type 0 where
    self : has (first p) p ≡ true
    others : (q : ℕ) → has (first p) q ≡ true → (has live q ≡ true) × (first q ≡ first p)

  start : (p : ℕ) (c : Bool) → has live p ≡ true → has cuts p ≡ c → Start p
  start p true l e =
      let r = of_cuts P a kept p e in
      let c = r.0 in
      let m = (cut P c).members in
      let is : (q : ℕ) → has live q ≡ true → has m q ≡ true → first q ≡ minus m marks =
      λ q lq h. first_by q true true lq ((in_cuts P a kept c r.1).at q h) ∙ ap (λ (x : ℕ). minus x marks) (applied_to_lem P a kept c q r.1 h) in
      let mine = is p l r.2 in
      record {
        self = ap (λ (x : ℕ). has x p) mine ∙ in_minus m marks p r.2 (of_minus roster marks p l).1;
        others = λ q h.
            let t = of_minus m marks q (sym (ap (λ (x : ℕ). has x q) mine) ∙ h) in
            let lq = in_minus roster marks q ((inside c).at q t.0) t.1 in
            (lq, is q lq t.0 ∙ sym mine);
      }
  start p false l e =
      let mine = first_by p true false l e in
      let here = in_minus live cuts p l e in
      record {
        self = ap (λ (x : ℕ). has x p) mine ∙ (close_within sets (one p)).at p (in_one p);
        others = λ q h.
            let k = sym (ap (λ (x : ℕ). has x q) mine) ∙ h in
            let t = of_minus live cuts q ((close_least sets (one p) rest (one-within p rest here) rest-closed).at q k) in
            (t.0, first_by q true false t.0 t.1 ∙ close_class sets p q k ∙ sym mine);
      }

  first_live : (p q : ℕ) → has (first p) q ≡ true → has live p ≡ true
  first_live p q h = pick (has live p) refl
    where
      pick : (b : Bool) → has live p ≡ b → has live p ≡ true
      pick true e = e
      pick false e = absurd (false≢true (sym (has-none q) ∙ sym (ap (λ (x : ℕ). has x q) (first_by p false (has cuts p) e refl)) ∙ h))

  -- a person's block at the start; past the roster there is none
  pub first_is : (p : ℕ) → block_of (first_state P roster marks a (applied P a kept)) p ≡ first p
  unfolding first_state
  first_is = get_or-below_all 64 first (λ p h. empty (first p) (λ q e. true≢false (sym (of_minus roster marks p (first_live p q e)).0 ∙ has_high 64 roster p fits h)))

  pub first-blocks : Blocks live (first_state P roster marks a (applied P a kept))
  unfolding first_state
  first-blocks = record {
    self = λ p l. at p p ∙ (start p (has cuts p) l refl).self;
    owner = λ p q h. first_live p q (sym (at p q) ∙ h);
    alive = λ p q h. (later p q (sym (at p q) ∙ h)).0;
    agreed = λ p q h. first_is q ∙ (later p q (sym (at p q) ∙ h)).1 ∙ sym (first_is p);
  }
    where
      at : (p q : ℕ) → has (get_or (below 64 first) p 0) q ≡ has (first p) q
      at p q = ap (λ (x : ℕ). has x q) (first_is p)

      later : (p q : ℕ) → has (first p) q ≡ true → (has live q ≡ true) × (first q ≡ first p)
      later p q h = (start p (has cuts p) (first_live p q h) refl).others q h
