-- Marks spread one person at a time: a set spreads as far as its persons do.
use mathlib.Core.Path.{◌≡◌, refl, sym, ap, ◌∙◌}
use mathlib.Core.Bool.{true, false≢true}
use mathlib.Core.List.{List, [], ◌∷◌, ◌++◌}
use Prim.Native.Nat.{ℕ, ◌<◌, ◌^◌}
use borrow.Author.Tests.{eqb-true, eq-eqb}
use Rattle.sets.specs.paper.Sets.{has, one, union, members, union_of, close_of}
use Rattle.records.specs.paper.Plan.{Plan}
use Rattle.sets.proofs.SetLaws.{has-none, has_one, antisym}
use Rattle.sets.proofs.Closing.{Closed, close_same, close_union}
use Rattle.expressions.specs.paper.Rules.{rule_sets}
use Rattle.expressions.specs.paper.Variables.{Influence}
use Rattle.worlds.specs.paper.World.{spread}
use Rattle.sets.proofs.TurnLaws.{union-has, has-union_of}

-- a set is the union of its persons
pub members-union : (m : ℕ) → m < 2 ^ 64 → union_of one (members m) ≡ m
members-union m l = antisym (union_of one (members m)) m (record { at = found }) (record { at = λ q e. has-union_of one m q q l e (has_one q q ∙ eq-eqb q q refl) })
  where
    found : (q : ℕ) → has (union_of one (members m)) q ≡ true → has m q ≡ true
    found q e =
        let r = union-has one m q l e in
        ap (has m) (sym (eqb-true r.0 q (sym (has_one r.0 q) ∙ r.2))) ∙ r.1

none-closed : (ss : List ℕ) → Closed ss 0
none-closed [] = tt
none-closed (s ∷ ss) = (λ p x y. absurd (false≢true (sym (has-none p) ∙ y)), none-closed ss)

module _ (P : Plan) (I : Influence) where
  pub spread_none : spread P I 0 ≡ 0
  unfolding spread
  spread_none =
      ap (close_of (rule_sets P)) (close_same (I.facts ++ I.decisions) 0 (none-closed (I.facts ++ I.decisions)))
      ∙ close_same (rule_sets P) 0 (none-closed (rule_sets P))

  pub spread-union : (a b : ℕ) → spread P I (union a b) ≡ union (spread P I a) (spread P I b)
  unfolding spread
  spread-union a b =
      ap (close_of (rule_sets P)) (close_union (I.facts ++ I.decisions) a b)
      ∙ close_union (rule_sets P) (close_of (I.facts ++ I.decisions) a) (close_of (I.facts ++ I.decisions) b)

  spread-list : (ps : List ℕ) → spread P I (union_of one ps) ≡ union_of (λ p. spread P I (one p)) ps
  unfolding union_of
  spread-list [] = spread_none
  spread-list (p ∷ ps) = spread-union (one p) (union_of one ps) ∙ ap (union (spread P I (one p))) (spread-list ps)

  pub spread-members : (m : ℕ) → m < 2 ^ 64 → spread P I m ≡ union_of (λ p. spread P I (one p)) (members m)
  spread-members m l = sym (ap (spread P I) (members-union m l)) ∙ spread-list (members m)
