-- The events of cuts read off the tables: which edge blocks which cut, and which cut overlaps which.
use mathlib.Core.Path.{◌≡◌, refl, sym, ap, ap₂, ◌∙◌}
use mathlib.Core.Bool.{Bool, true, false, ◌&&◌, ◌||◌, not, cond, or-false}
use mathlib.Core.List.{List, [], ◌∷◌}
use mathlib.Core.Logic.{◌⊎◌, inl, inr}
use Prim.Native.Nat.{ℕ, ◌<◌}
use lib.Dec.{ltb}
use borrow.Author.Tests.{lt-ltb, eqb-true, eq-eqb}
use Rattle.sets.specs.paper.Sets.{has, meets, union, meet, any_below, lex_less, rising_less, members}
use Rattle.records.specs.paper.Plan.{Plan}
use Rattle.sets.proofs.SetLaws.{has-union, of_meet, in_meet, and_parts}
use Rattle.sets.proofs.Local.{which, clash}
use Rattle.expressions.specs.paper.Rules.{cut_count, cut}
use Rattle.expressions.specs.paper.Nodes.{on}
use Rattle.expressions.specs.paper.Variables.{Influence}
use Rattle.worlds.specs.paper.Active as paper
use Rattle.worlds.specs.paper.World.{same_members, standing, overlapping_cuts, blocked_by}
use Rattle.worlds.specs.code.Over.{entry}
use Rattle.worlds.specs.code.Tables.{row, sharing, Stands, TellsActive}
use Rattle.worlds.specs.code.Cuts.{blockers, Noted}
use Rattle.worlds.specs.code.Settled.{Added}
use Rattle.worlds.specs.declared.tables.Common.{Common}
use Rattle.worlds.specs.declared.tables.Active.{Active}
use Rattle.worlds.proofs.FindLaws.{same_answer, meets_any}
use Rattle.worlds.proofs.CutLaws.{blockers-told}
use Rattle.worlds.proofs.ApplyLaws.{meets_swap, overlap-parts, overlap_twin, overlap_two}

-- what was noted at the numbers of a set is the pairs that pass
pub noted_added : (set : ℕ) (more : ℕ → ℕ) (test : ℕ → ℕ → Bool) (before after : List ℕ) → Noted set more before after
    → ((c d : ℕ) → (has set c && has (more c) d) ≡ test c d) → Added test before after
noted_added set more test before after N h = record { at = λ c d. ap (λ (m : ℕ). has m d) (N.at c) ∙ pick c d (has set c) refl }
  where
    pick : (c d : ℕ) (b : Bool) → has set c ≡ b → has (cond (has set c) (union (entry before c) (more c)) (entry before c)) d ≡ (has (entry before c) d || test c d)
    pick c d true e =
        ap (λ (b : Bool). has (cond b (union (entry before c) (more c)) (entry before c)) d) e ∙ has-union (entry before c) (more c) d
        ∙ ap (λ (b : Bool). has (entry before c) d || b) (sym (ap (λ (b : Bool). b && has (more c) d) e) ∙ h c d)
    pick c d false e =
        ap (λ (b : Bool). has (cond b (union (entry before c) (more c)) (entry before c)) d) e ∙ sym (or-false (has (entry before c) d))
        ∙ ap (λ (b : Bool). has (entry before c) d || b) (sym (ap (λ (b : Bool). b && has (more c) d) e) ∙ h c d)

lex_self : (xs : List ℕ) → lex_less xs xs ≡ false
unfolding lex_less
lex_self [] = refl
lex_self (x ∷ xs) = ap (λ (b : Bool). cond b (lex_less xs xs) (ltb x x)) (eq-eqb x x refl) ∙ lex_self xs

-- a set does not come before itself
pub rising-self : (a b : ℕ) → a ≡ b → rising_less a b ≡ false
unfolding rising_less
rising-self a b e = ap (λ (x : ℕ). lex_less (members a) (members x)) (sym e) ∙ lex_self (members a)

module _ (P : Plan) (I : Influence) (k : Common) (t : List (List ℕ)) (S : Stands P I k t) (kept : List Bool) (low : (c : ℕ) → on kept c ≡ true → c < cut_count P) where
  abbrev over : List Bool
  over = overlapping_cuts P kept

  abbrev mc : ℕ → ℕ
  mc c = (cut P c).members

  pub blocks-told : (a : paper.Active) (f : Active) → TellsActive P a f → (st : ℕ) → ((c : ℕ) → has st c ≡ standing kept over c)
      → (c e : ℕ) → (has st c && has (blockers t f.frozen f.decisions c) e) ≡ (standing kept over c && blocked_by P a c e)
  blocks-told a f T st told c e = pick (which (has st c))
    where
      pick : (has st c ≡ true) ⊎ (has st c ≡ false) → (has st c && has (blockers t f.frozen f.decisions c) e) ≡ (standing kept over c && blocked_by P a c e)
      pick (inl h) =
          ap₂ ◌&&◌ (told c) (blockers-told P I k t S a f T c e (low c (and_parts (on kept c) (not (on over c)) (sym (told c) ∙ h)).0))
      pick (inr h) = ap (λ (b : Bool). b && has (blockers t f.frozen f.decisions c) e) h ∙ sym (ap (λ (b : Bool). b && blocked_by P a c e) (sym (told c) ∙ h))

  -- no kept cut of lower number has the same members
  abbrev least : ℕ → Bool
  least c = on kept c && not (any_below c (λ d. on kept d && same_members P c d))

  module _ (cl : ℕ) (told : (c : ℕ) → has cl c ≡ on over c) (lo : ℕ) (lows : (c : ℕ) → has lo c ≡ (has cl c && not (meets (row t 3 c) cl))) where
    least_told : (c : ℕ) → has lo c ≡ (on over c && least c)
    least_told c = lows c ∙ ap (λ (b : Bool). b && not (meets (row t 3 c) cl)) (told c) ∙ pick (which (on over c))
      where
        twin : on over c ≡ true → (d : ℕ) → (has (row t 3 c) d && has cl d) ≡ (ltb d c && (on kept d && same_members P c d))
        twin h d =
            let l = (overlap-parts P kept c h).0 in
            ap₂ ◌&&◌ (S.lower c d l) (told d)
            ∙ same_answer ((ltb d c && same_members P c d) && on over d) (ltb d c && (on kept d && same_members P c d)) (λ e.
            let z = and_parts (ltb d c && same_members P c d) (on over d) e in
            let y = and_parts (ltb d c) (same_members P c d) z.0 in
            ap₂ ◌&&◌ y.0 (ap₂ ◌&&◌ (overlap-parts P kept d z.1).1 y.1)) (λ e.
            let z = and_parts (ltb d c) (on kept d && same_members P c d) e in
            let y = and_parts (on kept d) (same_members P c d) z.1 in
            ap₂ ◌&&◌ (ap₂ ◌&&◌ z.0 y.1) (overlap_twin P kept c d (low d y.0) h y.0 (eqb-true (mc c) (mc d) y.1)))

        pick : (on over c ≡ true) ⊎ (on over c ≡ false) → (on over c && not (meets (row t 3 c) cl)) ≡ (on over c && least c)
        pick (inl h) =
            ap (λ (b : Bool). on over c && b)
            (ap not (meets_any (row t 3 c) cl c _ (twin h)) ∙ sym (ap (λ (b : Bool). b && not (any_below c (λ d. on kept d && same_members P c d))) (overlap-parts P kept c h).1))
        pick (inr h) = ap (λ (b : Bool). b && not (meets (row t 3 c) cl)) h ∙ sym (ap (λ (b : Bool). b && least c) h)

    pub clashes_told : (c d : ℕ) → (has lo c && has (meet (row t 6 c) lo) d) ≡ ((least c && least d) && (sharing P c d && rising_less (mc c) (mc d)))
    clashes_told c d = same_answer (has lo c && has (meet (row t 6 c) lo) d) ((least c && least d) && (sharing P c d && rising_less (mc c) (mc d))) there back
      where
        there : (has lo c && has (meet (row t 6 c) lo) d) ≡ true → ((least c && least d) && (sharing P c d && rising_less (mc c) (mc d))) ≡ true
        there h =
            let z = and_parts (has lo c) (has (meet (row t 6 c) lo) d) h in
            let y = of_meet (row t 6 c) lo d z.1 in
            let u = and_parts (on over c) (least c) (sym (least_told c) ∙ z.0) in
            let v = and_parts (on over d) (least d) (sym (least_told d) ∙ y.1) in
            ap₂ ◌&&◌ (ap₂ ◌&&◌ u.1 v.1) (and_parts (ltb d (cut_count P)) _ (sym (S.later c d (overlap-parts P kept c u.0).0) ∙ y.0)).1

        back : ((least c && least d) && (sharing P c d && rising_less (mc c) (mc d))) ≡ true → (has lo c && has (meet (row t 6 c) lo) d) ≡ true
        back h =
            let z = and_parts (least c && least d) (sharing P c d && rising_less (mc c) (mc d)) h in
            let y = and_parts (least c) (least d) z.0 in
            let x = and_parts (sharing P c d) (rising_less (mc c) (mc d)) z.1 in
            let kc = (and_parts (on kept c) _ y.0).0 in
            let kd = (and_parts (on kept d) _ y.1).0 in
            let oc = overlap_two P kept c d (low c kc) (low d kd) kc kd x.0 (λ e. clash x.1 (rising-self (mc c) (mc d) e)) in
            let od = overlap_two P kept d c (low d kd) (low c kc) kd kc (meets_swap (mc c) (mc d) x.0) (λ e. clash x.1 (rising-self (mc c) (mc d) (sym e))) in
            ap₂ ◌&&◌ (least_told c ∙ ap₂ ◌&&◌ oc y.0)
            (in_meet (row t 6 c) lo d (S.later c d (low c kc) ∙ ap₂ ◌&&◌ (lt-ltb d (cut_count P) (low d kd)) z.1) (least_told d ∙ ap₂ ◌&&◌ od y.1))
