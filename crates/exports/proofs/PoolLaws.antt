-- Pools handed over: arrays of 64 entries, the numbers behind those of the answer.
use mathlib.Core.Path.{◌≡◌, refl, sym, ap, ap₂, ◌∙◌}
use mathlib.Core.Bool.{Bool, true, false}
use mathlib.Core.List.{List, [], ◌∷◌, ◌++◌, map, map-append, map-map, append-nil}
use Prim.Native.Nat.{ℕ, zero, suc, ◌-◌}
use native.Mathlib.Omega.{arith}
use mir.Val.{bool_byte}
use lib.ListN.{length, length-map, replicate}
use Rattle.sets.specs.paper.Sets.{only}
use Rattle.report.specs.paper.Operations.{told}
use Rattle.report.specs.declared.Answer.{Answer}
use Rattle.billing.specs.paper.Pooling.{PoolOutcome}
use Rattle.billing.specs.Shown.{padded, laid}
use Rattle.billing.specs.declared.pools.Pools.{Pools}
use Rattle.pooling.specs.Given.{Given, given}
use Rattle.exports.specs.Handed.{numbers, HandedPools, handed_pools}

-- what the machine has for true and for false
pub mark-byte : (b : Bool) → bool_byte b ≡ only b 1
mark-byte true = refl
mark-byte false = refl

-- 64 entries leave no place
pub padded-full : {A : Type 0} (none : A) (xs : List A) → length xs ≡ 64 → padded none xs ≡ xs
padded-full none xs h = ap (λ (n : ℕ). xs ++ replicate n none) (let e : 64 - length xs ≡ 0 = omega (arith, h) in e) ∙ append-nil xs

-- what stands for none goes over as what is made of it
padded-map : {A B : Type 0} (f : A → B) (none : A) (xs : List A) → map f (padded none xs) ≡ padded (f none) (map f xs)
padded-map {A} {B} f none xs =
    map-append f xs (replicate (64 - length xs) none) ∙ ap (λ (ys : List B). map f xs ++ ys) (same (64 - length xs))
    ∙ ap (λ (n : ℕ). map f xs ++ replicate (64 - n) (f none)) (sym (length-map xs f))
  where
    same : (n : ℕ) → map f (replicate n none) ≡ replicate n (f none)
    same zero = refl
    same (suc n) = ap (λ ys. f none ∷ ys) (same n)

-- an outcome handed over: its answer told, its bytes as they are, its units in three arrays
pub hands_pools : (a : Answer) (ls es : List ℕ) (p : Pools) (o : PoolOutcome) (r : ℕ) (n marks : List ℕ) → ◌≡◌ {A = Given} (record { answer = a; lines = ls; events = es; pools = p }) (given o)
    → r ≡ (told a).refusal → n ≡ numbers (told a) ++ (p.count ∷ p.unplaced ∷ []) → marks ≡ map (λ b. only b 1) p.marks
    → ◌≡◌ {A = HandedPools} (record { result = r; told = n; lines = ls; events = es; blocks = p.blocks; pools = p.cents; marks = marks }) (handed_pools o)
unfolding laid
hands_pools a ls es p o r n marks g f k m =
    ap₂ (λ (r : ℕ) (n : List ℕ). record { result = r; told = n; lines = ls; events = es; blocks = p.blocks; pools = p.cents; marks = marks }) f k
    ∙ ap (λ (marks : List ℕ). record { result = (told a).refusal; told = numbers (told a) ++ (p.count ∷ p.unplaced ∷ []); lines = ls; events = es; blocks = p.blocks; pools = p.cents; marks = marks }) m
    ∙ ap over g ∙ ap (λ (marks : List ℕ). record { result = (told o.outcome.answer).refusal; told = (handed_pools o).told; lines = o.outcome.lines; events = o.outcome.events; blocks = (handed_pools o).blocks; pools = (handed_pools o).pools; marks = marks }) bytes
  where
    over : Given → HandedPools
    over g = record {
      result = (told g.answer).refusal;
      told = numbers (told g.answer) ++ (g.pools.count ∷ g.pools.unplaced ∷ []);
      lines = g.lines;
      events = g.events;
      blocks = g.pools.blocks;
      pools = g.pools.cents;
      marks = map (λ b. only b 1) g.pools.marks;
    }

    bytes : map (λ b. only b 1) (padded false (map (λ u. u.marked) o.units)) ≡ padded 0 (map (λ u. only u.marked 1) o.units)
    bytes = padded-map (λ b. only b 1) false (map (λ u. u.marked) o.units) ∙ ap (padded 0) (map-map (λ b. only b 1) (λ u. u.marked) o.units)
