-- Units are the blocks of lines, each once; a sum unit by unit is the sum over all lines that have a block. So pools and what is unplaced are everything.
use mathlib.Core.Path.{◌≡◌, refl, sym, ap, ◌∙◌, subst}
use mathlib.Core.Bool.{Bool, true, false, ◌&&◌, ◌||◌, not, cond, and-true, and-false, or-true, or-false, or_assoc, and-or_distrib_left}
use mathlib.Core.List.{List, [], ◌∷◌, ◌++◌}
use mathlib.Core.Logic.{◌≢◌}
use Prim.Native.Nat.{ℕ, ◌+◌}
use native.Mathlib.Omega.{arith}
use lib.ListN.{length}
use lib.Dec.{eqb}
use borrow.Author.Tests.{eqb-true, eqb-false, eq-eqb, ne_eqb}
use Rattle.sets.specs.paper.Sets.{only, any_of, sum_of, count_of, All}
use Rattle.sets.proofs.Every.{all_then, any_append}
use Rattle.sets.proofs.SumLaws.{sum_where, sum_map, sum_parted, sum_by, AtMostOnce, once_new}
use Rattle.report.specs.paper.Line.{Line}
use Rattle.report.specs.paper.Units.{join_unit, units_with, units}
use Rattle.billing.specs.paper.Pools.{shares, pooled, pool_of, unplaced, unit_pool, pools}

-- ---- a block joins the units

join_once : (us : List ℕ) (b c : ℕ) → AtMostOnce us c → AtMostOnce (join_unit us b) c
join_once us b c h = go (eqb b 0) (any_of (eqb b) us) refl
  where
    go : (z y : Bool) → any_of (eqb b) us ≡ y → AtMostOnce (cond (z || y) us (us ++ (b ∷ []))) c
    go true y e = h
    go false true e = h
    go false false e = once_new us b c e h

join_any : (us : List ℕ) (b c : ℕ) → any_of (eqb c) (join_unit us b) ≡ (any_of (eqb c) us || (not (eqb c 0) && eqb b c))
unfolding any_of
join_any us b c = pick (eqb b c) refl
  where
    same : (z y : Bool) → any_of (eqb b) us ≡ y → any_of (eqb b) (cond (z || y) us (us ++ (b ∷ []))) ≡ (any_of (eqb b) us || (not z && true))
    same true y e = sym (or-false (any_of (eqb b) us))
    same false true e = e ∙ sym (or-true (any_of (eqb b) us))
    same false false e = any_append (eqb b) us (b ∷ []) ∙ ap (λ (x : Bool). any_of (eqb b) us || (x || false)) (eq-eqb b b refl)

    other : (z y : Bool) → (c ≡ b → ⊥) → any_of (eqb c) (cond (z || y) us (us ++ (b ∷ []))) ≡ any_of (eqb c) us
    other true y n = refl
    other false true n = refl
    other false false n = any_append (eqb c) us (b ∷ []) ∙ ap (λ (x : Bool). any_of (eqb c) us || (x || false)) (ne_eqb c b n) ∙ or-false (any_of (eqb c) us)

    pick : (x : Bool) → eqb b c ≡ x → any_of (eqb c) (join_unit us b) ≡ (any_of (eqb c) us || (not (eqb c 0) && x))
    pick true e =
        subst (λ (c : ℕ). any_of (eqb c) (join_unit us b) ≡ (any_of (eqb c) us || (not (eqb c 0) && true))) (eqb-true b c e)
        (same (eqb b 0) (any_of (eqb b) us) refl)
    pick false e =
        other (eqb b 0) (any_of (eqb b) us) (λ f. eqb-false b c e (sym f))
        ∙ sym (ap (λ (x : Bool). any_of (eqb c) us || x) (and-false (not (eqb c 0))) ∙ or-false (any_of (eqb c) us))

-- ---- the units

with_once : (ls : List Line) (us : List ℕ) (b : ℕ) → AtMostOnce us b → AtMostOnce (units_with us ls) b
unfolding units_with
with_once [] us b h = h
with_once (l ∷ ls) us b h = with_once ls (join_unit us l.block) b (join_once us l.block b h)

-- EACH UNIT IS LISTED ONCE
pub units-once : (ls : List Line) (b : ℕ) → AtMostOnce (units ls) b
unfolding units any_of count_of sum_of
units-once ls b = with_once ls [] b refl

with_any : (ls : List Line) (us : List ℕ) (b : ℕ) → any_of (eqb b) (units_with us ls) ≡ (any_of (eqb b) us || (not (eqb b 0) && any_of (λ l. eqb l.block b) ls))
unfolding units_with any_of
with_any [] us b = sym (ap (λ (x : Bool). any_of (eqb b) us || x) (and-false (not (eqb b 0))) ∙ or-false (any_of (eqb b) us))
with_any (l ∷ ls) us b =
    let z = not (eqb b 0) in
    let rest = any_of (λ l. eqb l.block b) ls in
    with_any ls (join_unit us l.block) b ∙ ap (λ (x : Bool). x || (z && rest)) (join_any us l.block b)
    ∙ or_assoc (any_of (eqb b) us) (z && eqb l.block b) (z && rest)
    ∙ ap (λ (x : Bool). any_of (eqb b) us || x) (sym (and-or_distrib_left z (eqb l.block b) rest))

-- A MASK IS A UNIT EXACTLY IF IT IS NOT 0 AND SOME LINE HAS IT AS BLOCK
pub units_any : (ls : List Line) (b : ℕ) → any_of (eqb b) (units ls) ≡ (not (eqb b 0) && any_of (λ l. eqb l.block b) ls)
unfolding units any_of
units_any ls b = with_any ls [] b

-- a block is among the units exactly if it is not 0
abbrev pub AmongUnits : List Line → ℕ → Type 0
AmongUnits ls b = any_of (eqb b) (units ls) ≡ not (eqb b 0)

-- SO IT IS WITH EVERY LINE'S BLOCK
pub lines-among : (ls : List Line) → All (λ l. AmongUnits ls l.block) ls
unfolding any_of
lines-among ls =
    all_then _ _ (λ l e. units_any ls l.block ∙ ap (λ (x : Bool). not (eqb l.block 0) && x) e ∙ and-true (not (eqb l.block 0))) ls (there ls)
  where
    there : (ls : List Line) → All (λ l. any_of (λ m. eqb m.block l.block) ls ≡ true) ls
    there [] = tt
    there (l ∷ ls) = (
      ap (λ (x : Bool). x || any_of (λ m. eqb m.block l.block) ls) (eq-eqb l.block l.block refl),
      all_then _ _ (λ m e. ap (λ (x : Bool). eqb l.block m.block || x) e ∙ or-true (eqb l.block m.block)) ls (there ls),
    )

-- ---- UNIT BY UNIT: the sums of any weight over those with each unit as block are the sum over all that have one, whatever test they must pass beside

pub by_units : {A : Type 0} (block : A → ℕ) (test : A → Bool) (weight : A → ℕ) (ls : List Line) (xs : List A) → All (λ x. AmongUnits ls (block x)) xs
    → sum_of (λ u. sum_of (λ x. only (test x && eqb (block x) u) (weight x)) xs) (units ls) ≡ sum_of (λ x. only (test x && not (eqb (block x) 0)) (weight x)) xs
by_units block test weight ls xs h =
    sum_by block test weight (units ls) xs (all_then _ _ (λ x _. units-once ls (block x)) xs h)
    ∙ sum_where _ _ xs (all_then _ _ (λ x e. ap (λ (b : Bool). only (test x && b) (weight x)) e) xs h)

-- ---- the shares of lines

pub share_lines : (Q : Line → Type 0) (ls : List Line) (cs : List ℕ) → All Q ls → All (λ x. Q x.line) (shares ls cs)
unfolding shares
share_lines Q [] cs h = tt
share_lines Q (l ∷ ls) [] h = tt
share_lines Q (l ∷ ls) (c ∷ cs) h = (h.0, share_lines Q ls cs h.1)

share_cents : (ls : List Line) (cs : List ℕ) → length ls ≡ length cs → sum_of (λ x. x.cents) (shares ls cs) ≡ sum_of (λ c. c) cs
unfolding shares sum_of
share_cents [] [] e = refl
share_cents [] (c ∷ cs) e = absurd (omega arith)
share_cents (l ∷ ls) [] e = absurd (omega arith)
share_cents (l ∷ ls) (c ∷ cs) e = ap (λ (n : ℕ). c + n) (share_cents ls cs (omega arith))

-- ALL POOLS AND ALL UNPLACED AMOUNTS TOGETHER EQUAL THE LIST'S OWN SUM, where a line of kind 0 has a block
pub pools-whole : (ls : List Line) (cs : List ℕ) → length ls ≡ length cs → All (λ l. l.kind ≡ 0 → l.block ≢ 0) ls
    → sum_of (λ u. u.cents) (pools ls cs) + unplaced (shares ls cs) ≡ sum_of (λ c. c) cs
unfolding pools pool_of unplaced
pools-whole ls cs e h =
    ap (λ (n : ℕ). n + unplaced (shares ls cs)) (sum_map (λ u. u.cents) (unit_pool ls cs) (units ls)
    ∙ by_units (λ x. x.line.block) (λ x. pooled x.line) (λ x. x.cents) ls (shares ls cs) (share_lines (λ l. AmongUnits ls l.block) ls cs (lines-among ls))
    ∙ sum_where _ (λ x. only (pooled x.line) x.cents) (shares ls cs) (all_then _ _ (λ x. placed x.line x.cents) (shares ls cs) (share_lines _ ls cs h)))
    ∙ sum_parted (λ x. pooled x.line) (λ x. x.cents) (shares ls cs) ∙ share_cents ls cs e
  where
    placed : (l : Line) (c : ℕ) → (l.kind ≡ 0 → l.block ≢ 0) → only (pooled l && not (eqb l.block 0)) c ≡ only (pooled l) c
    placed l c n = go (eqb l.kind 0) (not (eqb l.role 2)) (eqb l.block 0) refl refl
      where
        go : (k r b : Bool) → eqb l.kind 0 ≡ k → eqb l.block 0 ≡ b → only ((k && r) && not b) c ≡ only (k && r) c
        go true true true e f = absurd (n (eqb-true l.kind 0 e) (eqb-true l.block 0 f))
        go true true false e f = refl
        go true false b e f = refl
        go false r b e f = refl
