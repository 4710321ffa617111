-- `touch::users`: the persons of each rule that uses the fact, taken in one after another.
use Prim.Native.Nat.{ℕ}
use mathlib.Core.Path.{◌≡◌, refl, sym, ap, ◌∙◌}
use mathlib.Core.Bool.{Bool, true, false, cond}
use mathlib.Core.List.{List, [], ◌∷◌}
use borrow.Author.Rules.{rules}
use borrow.Author.Tests.{tests}
use Rattle.std.specs.List.{fold, zip}
use Rattle.std.proofs.lemmas.Iterator.{YieldsList-from_slice, YieldsList-from_zip}
use Rattle.std.proofs.lemmas.Iterator.Consumers.{fold_from_yields_List}
use Rattle.sets.specs.paper.Sets.{union, has, only}
use Rattle.sets.proofs.UnionLaws.{union_assoc, union-none, none-union}
use Rattle.expressions.specs.code.Listed.{users_in}
use Rattle.expressions.proofs.touch.users.Goals as goal

abbrev take_in : ℕ → ℕ → ℕ × ℕ → ℕ
take_in f m rule = cond (has rule.0 f) (union m rule.1) m

taken : (f m : ℕ) (us ps : List ℕ) → fold (take_in f) m (zip us ps) ≡ union m (users_in f us ps)
unfolding users_in
taken f m [] ps = sym (union-none m)
taken f m (u ∷ us) [] = sym (union-none m)
taken f m (u ∷ us) (p ∷ ps) =
    taken f (take_in f m (u, p)) us ps ∙ ap (λ (n : ℕ). union n (users_in f us ps)) (pick (has u f)) ∙ union_assoc m (only (has u f) p) (users_in f us ps)
  where
    pick : (b : Bool) → cond b (union m p) m ≡ union m (only b p)
    pick true = refl
    pick false = sym (union-none m)

pub returns : goal.returns
returns c =
    let a = c.args in
    fold_from_yields_List _ (take_in a.f) 0 _ c.fold.ensures.ran (YieldsList-from_zip (YieldsList-from_slice a.uses.now cc) (YieldsList-from_slice a.persons.now cc)) (λ m x n q k. search (rules, tests))
    ∙ taken a.f 0 a.uses.now a.persons.now ∙ none-union _
