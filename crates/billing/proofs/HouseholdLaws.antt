-- Households are the units of those lines whose persons make one: counted so, line after line, they are as many.
use mathlib.Core.Path.{◌≡◌, refl, sym, ap, ap₂, ◌∙◌}
use mathlib.Core.Bool.{Bool, true, false, ◌&&◌, ◌||◌, not, and-true, and-false}
use mathlib.Core.List.{List, [], ◌∷◌, map}
use mathlib.Core.Logic.{◌≢◌}
use Prim.Native.Nat.{ℕ}
use lib.ListN.{length, get_or}
use lib.Dec.{eqb}
use borrow.Author.Tests.{eqb-false, eq-eqb, ne_eqb, not-true}
use Rattle.sets.specs.paper.Sets.{only, any_of, count_of, All}
use Rattle.sets.proofs.Every.{all_then}
use Rattle.sets.proofs.SetLaws.{and_parts, eqb_swap}
use Rattle.sets.proofs.SumLaws.{sum_where, sum_by, count-agree, count_all}
use Rattle.report.specs.paper.Line.{Line}
use Rattle.report.specs.paper.Units.{units}
use Rattle.billing.specs.paper.Households.{makes_household, household, household_count}
use Rattle.billing.specs.Shown.{with_block}
use Rattle.billing.proofs.ByUnits.{units-once, units_any}
use Rattle.billing.proofs.LinePlaces.{any_at, at_all}

-- ---- lines with a block only where the person makes it a household

abbrev pub making : Line → Line
making l = with_block (λ l. only (makes_household l.kind l.role) l.block) l

-- their units
abbrev pub making_units : List Line → List ℕ
making_units ls = units (map making ls)

-- a block is among theirs exactly if it is a household
making_any : (ls : List Line) (b : ℕ) → b ≢ 0 → any_of (λ l. eqb l.block b) (map making ls) ≡ household ls b
unfolding any_of household
making_any [] b z = refl
making_any (l ∷ ls) b z = ap₂ ◌||◌ (go (makes_household l.kind l.role)) (making_any ls b z)
  where
    go : (m : Bool) → eqb (only m l.block) b ≡ (eqb l.block b && m)
    go true = sym (and-true (eqb l.block b))
    go false = ne_eqb 0 b (λ e. z (sym e)) ∙ sym (and-false (eqb l.block b))

-- and a household is some line's block
any_then : (ls : List Line) (b : ℕ) → household ls b ≡ true → any_of (λ l. eqb l.block b) ls ≡ true
unfolding any_of household
any_then [] b e = e
any_then (l ∷ ls) b e = go (eqb l.block b) (makes_household l.kind l.role) e (any_then ls b)
  where
    go : (x m : Bool) → ((x && m) || household ls b) ≡ true → (household ls b ≡ true → any_of (λ l. eqb l.block b) ls ≡ true) → (x || any_of (λ l. eqb l.block b) ls) ≡ true
    go true m e ih = refl
    go false m e ih = ih e

-- ---- as many as there are households

-- each number of a list is in it
in_itself : (ns : List ℕ) → All (λ n. any_of (eqb n) ns ≡ true) ns
in_itself ns = at_all 0 _ ns (λ i l. let n = get_or ns i 0 in any_at 0 (eqb n) ns i l (eq-eqb n n refl))

-- a unit is no empty block, and is among those of the lines that make households exactly if it is one
units_making : (ls : List Line) → All (λ u. any_of (eqb u) (making_units ls) ≡ household ls u) (units ls)
units_making ls =
    all_then _ _ (λ u e.
    let t = and_parts (not (eqb u 0)) _ (sym (units_any ls u) ∙ e) in
    units_any (map making ls) u ∙ ap₂ ◌&&◌ t.0 (making_any ls u (eqb-false u 0 (not-true (eqb u 0) t.0)))) (units ls) (in_itself (units ls))

-- each of theirs is a unit, listed once
making_once : (ls : List Line) → All (λ b. count_of (λ u. eqb u b) (units ls) ≡ 1) (making_units ls)
making_once ls =
    all_then _ _ (λ b e.
    let t = and_parts (not (eqb b 0)) _ (sym (units_any (map making ls) b) ∙ e) in
    count-agree _ _ (λ u. eqb_swap u b) (units ls) ∙ units-once ls b
    ∙ ap (λ (x : Bool). only x 1) (units_any ls b ∙ ap₂ ◌&&◌ t.0 (any_then ls b (sym (making_any ls b (eqb-false b 0 (not-true (eqb b 0) t.0))) ∙ t.1)))) (making_units ls) (in_itself (making_units ls))

-- SO MANY UNITS ARE HOUSEHOLDS
pub households_made : (ls : List Line) → length (making_units ls) ≡ household_count ls
unfolding household_count count_of
households_made ls =
    sym (sum_where _ _ (making_units ls) (making_once ls) ∙ count_all (making_units ls))
    ∙ sum_by (λ u. u) (λ u. true) (λ u. 1) (making_units ls) (units ls) (all_then _ _ (λ u e. units-once (map making ls) u) (units ls) (units_making ls))
    ∙ sum_where _ _ (units ls) (all_then _ _ (λ u e. ap (λ (b : Bool). only b 1) e) (units ls) (units_making ls))
