-- Cuts as blocks, one after another.
use mathlib.Core.Path.{◌≡◌, refl, sym, ap, ap₂, ◌∙◌}
use mathlib.Core.Bool.{Bool, true, false, ◌&&◌, ◌||◌, not, cond, and-true, or-true, true≢false}
use mathlib.Core.List.{List, ◌∷◌}
use Prim.Native.Nat.{ℕ, ◌<◌, ◌^◌}
use native.Mathlib.Nat.{lt_trans}
use lib.Dec.{eqb}
use borrow.Author.Tests.{eqb-true, eq-eqb}
use Rattle.sets.specs.paper.Sets.{has, union, meet, minus, lowest, members, union_of}
use Rattle.sets.proofs.SetLaws.{has-none, has-union, has-minus, ext}
use Rattle.worlds.specs.code.Over.{entry, Marked}
use Rattle.worlds.specs.code.Blocks.{CutInto}
use Rattle.sets.proofs.TurnLaws.{members-none, member_has}
use Rattle.worlds.proofs.Partition.{not_set}

-- a loop over applied cuts that has `todo` left
pub record CutSoFar (table : List ℕ) (cuts placed todo : ℕ) (before blocks : List ℕ) (rest : ℕ) : Type 0 where
  pub few : todo < 2 ^ 64
  pub within : (c : ℕ) → has todo c ≡ true → has cuts c ≡ true
  pub left : minus rest (union_of (λ c. meet (entry table c) placed) (members todo)) ≡ minus placed (union_of (λ c. meet (entry table c) placed) (members cuts))
  pub others : (p : ℕ) → ((c : ℕ) → has cuts c ≡ true → has (meet (entry table c) placed) p ≡ false) → entry blocks p ≡ entry before p
  pub held : (p c : ℕ) → has cuts c ≡ true → has todo c ≡ false → has (meet (entry table c) placed) p ≡ true
      → ((d : ℕ) → has cuts d ≡ true → has (meet (entry table d) placed) p ≡ true → meet (entry table d) placed ≡ meet (entry table c) placed)
      → entry blocks p ≡ meet (entry table c) placed

pub cut_start : (table : List ℕ) (cuts placed : ℕ) (blocks : List ℕ) → cuts < 2 ^ 64 → CutSoFar table cuts placed cuts blocks blocks placed
cut_start table cuts placed blocks few = record {
  few = few;
  within = λ c h. h;
  left = refl;
  others = λ p h. refl;
  held = λ p c x y h e. absurd (true≢false (sym x ∙ y));
}

minus-none : (a : ℕ) → minus a 0 ≡ a
minus-none a = ext (minus a 0) a (λ q. has-minus a 0 q ∙ ap (λ (x : Bool). has a q && not x) (has-none q) ∙ and-true (has a q))

minus_minus : (a b c : ℕ) → minus (minus a b) c ≡ minus a (union b c)
minus_minus a b c = ext (minus (minus a b) c) (minus a (union b c)) (λ q.
    has-minus (minus a b) c q ∙ ap (λ (x : Bool). x && not (has c q)) (has-minus a b q) ∙ both (has a q) (has b q) (has c q)
    ∙ sym (has-minus a (union b c) q ∙ ap (λ (x : Bool). has a q && not x) (has-union b c q)))
  where
    both : (x y z : Bool) → ((x && not y) && not z) ≡ (x && not (y || z))
    both true true z = refl
    both true false z = refl
    both false y z = refl

module _ (table : List ℕ) (cuts placed todo : ℕ) (before blocks : List ℕ) (rest : ℕ) (S : CutSoFar table cuts placed todo before blocks rest) where
  abbrev part : ℕ → ℕ
  part c = meet (entry table c) placed

  pub cut_turn : (t next v rest' : ℕ) (after : List ℕ) → t ≡ lowest todo → members todo ≡ lowest todo ∷ members next → next < todo → v ≡ meet (entry table t) placed
      → Marked v v blocks after → rest' ≡ minus rest v → CutSoFar table cuts placed next before after rest'
  unfolding union_of
  cut_turn t next v rest' after low list less is put less-rest = record {
    few = lt_trans less S.few;
    within = λ c h. S.within c (todo_is c ∙ ap (λ (b : Bool). eqb t c || b) h ∙ or-true (eqb t c));
    left =
        ap (λ (x : ℕ). minus x (union_of part (members next))) (less-rest ∙ ap (minus rest) is) ∙ minus_minus rest (part t) (union_of part (members next))
        ∙ ap (λ (l : List ℕ). minus rest (union_of part l)) (ap (λ (x : ℕ). x ∷ members next) low ∙ sym list) ∙ S.left;
    others = λ p h. at p ∙ ap (λ (b : Bool). cond b (part t) (entry blocks p)) (h t mine) ∙ S.others p h;
    held = λ p c x y h e. at p ∙ now p c x y h e (has (part t) p) refl;
  }
    where
      todo_is : (c : ℕ) → has todo c ≡ (eqb t c || has next c)
      todo_is c = member_has todo next S.few less list c ∙ ap (λ (i : ℕ). eqb i c || has next c) (sym low)

      mine : has cuts t ≡ true
      mine = S.within t (todo_is t ∙ ap (λ (b : Bool). b || has next t) (eq-eqb t t refl))

      at : (p : ℕ) → entry after p ≡ cond (has (part t) p) (part t) (entry blocks p)
      at p = put.at p 0 ∙ ap (λ (m : ℕ). cond (has m p) m (entry blocks p)) is

      now : (p c : ℕ) → has cuts c ≡ true → has next c ≡ false → has (part c) p ≡ true
          → ((d : ℕ) → has cuts d ≡ true → has (part d) p ≡ true → part d ≡ part c) → (b : Bool) → has (part t) p ≡ b
          → cond (has (part t) p) (part t) (entry blocks p) ≡ part c
      now p c x y h e true k = ap (λ (b : Bool). cond b (part t) (entry blocks p)) k ∙ e t mine k
      now p c x y h e false k =
          ap (λ (b : Bool). cond b (part t) (entry blocks p)) k
          ∙ S.held p c x (todo_is c ∙ ap₂ ◌||◌ (not_set (eqb t c) (λ z. true≢false (sym h ∙ ap (λ (i : ℕ). has (part i) p) (sym (eqb-true t c z)) ∙ k))) y) h e

  pub cut_end : todo ≡ 0 → CutInto table cuts placed before blocks rest
  unfolding union_of
  cut_end z = record {
    left = sym (minus-none rest) ∙ ap (λ (l : List ℕ). minus rest (union_of part l)) (sym (members-none todo z)) ∙ S.left;
    others = S.others;
    held = λ p c x h e. S.held p c x (ap (λ (m : ℕ). has m c) z ∙ has-none c) h e;
  }
