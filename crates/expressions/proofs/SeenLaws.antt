-- Laws of what the code keeps of a fact's observations, and the binding that follows.
use mathlib.Core.Path.{◌≡◌, refl, sym, ap, ap₂, ◌∙◌}
use mathlib.Core.Bool.{Bool, true, false, ◌&&◌, ◌||◌, not, cond, or_assoc, or-true, or-false}
use mathlib.Core.List.{List, [], ◌∷◌, ◌++◌, map, flat_map}
use Prim.Native.Nat.{ℕ, ◌+◌, ◌≤◌, ◌<◌, min}
use native.Mathlib.Omega.{arith}
use lib.ListN.{length, get_or, take, drop, set, length-set}
use lib.Dec.{eqb, eqb-suc-zero}
use borrow.Author.Tests.{ne_eqb}
use Rattle.sets.specs.paper.Sets.{all_of, below}
use Rattle.sets.proofs.SetLaws.{eqb_swap}
use Rattle.records.specs.paper.Case as paper
use Rattle.records.specs.paper.Case.{Observation}
use Rattle.records.specs.code.Decoded.{boolean_of}
use Rattle.records.specs.declared.case.Boolean.{Boolean}
use Rattle.expressions.specs.declared.observations.Sight.{Sight}
use Rattle.expressions.specs.paper.Bindings.{Bound, known, conflict, just, both, same_observation, values_seen, weighed, unknown_in}
use Rattle.expressions.specs.code.Sight.{nothing, look_at, look_all, bound_by}
use Rattle.expressions.proofs.ListLaws.{changed_at}
use Rattle.expressions.proofs.Rests.{below_next, below_none, made-next, made_none}

pub look_append : (s : Sight) (xs ys : List Observation) → look_all s (xs ++ ys) ≡ look_all (look_all s xs) ys
unfolding look_all
look_append s [] ys = refl
look_append s (o ∷ xs) ys = look_append (look_at s o) xs ys

-- ---- so many values beside their evidence

abbrev pub pairs : ℕ → List ℕ → List ℕ → List Observation
pairs n values evidence = below n (λ i. record { value = get_or values i 0; evidence = get_or evidence i 0 })

pub pairs_next : (s : Sight) (n : ℕ) (values evidence : List ℕ) (i : ℕ) → i < n
    → look_all s (drop i (pairs n values evidence))
    ≡ look_all (look_at s (record { value = get_or values i 0; evidence = get_or evidence i 0 })) (drop (i + 1) (pairs n values evidence))
unfolding look_all
pairs_next s n values evidence i h = ap (look_all s) (below_next n (λ i. record { value = get_or values i 0; evidence = get_or evidence i 0 }) i h)

pub pairs-none : (s : Sight) (n : ℕ) (values evidence : List ℕ) (i : ℕ) → n ≤ i → look_all s (drop i (pairs n values evidence)) ≡ s
unfolding look_all
pairs-none s n values evidence i h = ap (look_all s) (below_none n (λ i. record { value = get_or values i 0; evidence = get_or evidence i 0 }) i h)

-- ---- the records of a kind: each has a fact and observations

module _ {A B : Type 0} (make : A → B) (fact : B → ℕ) (seen : B → List Observation) where
  -- what they have on a fact
  abbrev pub seen_on : List B → ℕ → List Observation
  seen_on xs f = flat_map (λ x. cond (eqb (fact x) f) (seen x) []) xs

  first : (s : Sight) (f : ℕ) (x : B) (xs : List B) → look_all s (seen_on (x ∷ xs) f) ≡ look_all (cond (eqb (fact x) f) (look_all s (seen x)) s) (seen_on xs f)
  unfolding flat_map look_all
  first s f x xs = pick (eqb (fact x) f)
    where
      pick : (t : Bool) → look_all s (cond t (seen x) [] ++ seen_on xs f) ≡ look_all (cond t (look_all s (seen x)) s) (seen_on xs f)
      pick true = look_append s (seen x) (seen_on xs f)
      pick false = refl

  -- of each fact: what the records from i on have, seen after what was seen, gives the whole
  pub record Looking (items : List A) (count most : ℕ) (old : List Sight) (n : ℕ) (table : List Sight) (i : ℕ) : Type 0 where
    pub long : length items ≡ most
    pub room : length table ≡ 64
    pub some : n ≡ min count most
    pub few : i ≤ n
    pub left : (f : ℕ) → f < 64 → look_all (get_or table f nothing) (seen_on (drop i (map make (take count items))) f) ≡ look_all (get_or old f nothing) (seen_on (map make (take count items)) f)

module _ {A B : Type 0} {make : A → B} {fact : B → ℕ} {seen : B → List Observation} {items : List A} {count most : ℕ} {old : List Sight} {n : ℕ} where
  pub looking_none : length items ≡ most → length old ≡ 64 → n ≡ min count most → Looking make fact seen items count most old n old 0
  looking_none l r s = record { long = l; room = r; some = s; few = omega arith; left = λ f h. refl }

  module _ {table : List Sight} {i : ℕ} (w : Looking make fact seen items count most old n table i) where
    pub looking_end : n ≤ i → (f : ℕ) → f < 64 → get_or table f nothing ≡ look_all (get_or old f nothing) (seen_on make fact seen (map make (take count items)) f)
    unfolding flat_map look_all
    looking_end l f h =
        sym (ap (λ (xs : List B). look_all (get_or table f nothing) (seen_on make fact seen xs f)) (made_none make items count i (omega (arith, w.long, w.some)))) ∙ w.left f h

    module _ (l : i < n) (d : A) where
      abbrev here : B
      here = make (get_or items i d)

      one_more : (t : List Sight) → length t ≡ 64 → ((f : ℕ) → f < 64 → get_or t f nothing ≡ cond (eqb (fact here) f) (look_all (get_or table f nothing) (seen here)) (get_or table f nothing))
          → Looking make fact seen items count most old n t (i + 1)
      one_more t r e = record {
        long = w.long;
        room = r;
        some = w.some;
        few = omega arith;
        left = λ f h.
            let rest = drop (i + 1) (map make (take count items)) in
            ap (λ (s : Sight). look_all s (seen_on make fact seen rest f)) (e f h) ∙ sym (first make fact seen (get_or table f nothing) f here rest)
            ∙ ap (λ (xs : List B). look_all (get_or table f nothing) (seen_on make fact seen xs f)) (sym (made-next make items count i d (omega (arith, w.long, w.some)))) ∙ w.left f h;
      }

      -- what the record has is looked at under its fact, or has no place
      pub looking_next : (g : ℕ) (v : Sight) → g ≡ fact here → g < 64 → v ≡ look_all (get_or table g nothing) (seen here) → Looking make fact seen items count most old n (set table g v) (i + 1)
      looking_next g v same small e =
          one_more (set table g v) (length-set table g v ∙ w.room) (λ f h.
          changed_at table g f (λ (s : Sight). look_all s (seen here)) v nothing (omega (arith, w.room)) e
          ∙ ap (λ (k : ℕ). cond (eqb k f) (look_all (get_or table f nothing) (seen here)) (get_or table f nothing)) same)

      pub looking_past : (g : ℕ) → g ≡ fact here → 64 ≤ g → Looking make fact seen items count most old n table (i + 1)
      looking_past g same big =
          one_more table w.room (λ f h. sym (ap (λ (t : Bool). cond t (look_all (get_or table f nothing) (seen here)) (get_or table f nothing)) (ne_eqb (fact here) f (λ q. omega arith))))

-- ---- explicit unknown

abbrev pub said : List paper.Boolean → ℕ → Bool
said bs f = not (eqb (length (unknown_in bs f)) 0)

said-first : (f : ℕ) (b : Boolean) (bs : List paper.Boolean) → said (boolean_of b ∷ bs) f ≡ cond (eqb b.fact f && b.unknown) true (said bs f)
unfolding unknown_in boolean_of flat_map
said-first f b bs = pick (eqb b.fact f) b.unknown
  where
    pick : (t u : Bool) → not (eqb (length (cond t (cond u (b.evidence ∷ []) []) [] ++ unknown_in bs f)) 0) ≡ cond (t && u) true (not (eqb (length (unknown_in bs f)) 0))
    pick true true = ap not (eqb-suc-zero (length (unknown_in bs f)))
    pick true false = refl
    pick false u = refl

or_cond : (b c : Bool) → (b || c) ≡ cond b true c
or_cond true c = refl
or_cond false c = refl

-- the fact was said so before, or is by this record, or by one of those left
pub said-next : (items : List Boolean) (n f i : ℕ) (d : Boolean) (before now : Bool) → i < min n (length items)
    → now ≡ (before || (eqb (get_or items i d).fact f && (get_or items i d).unknown))
    → (now || said (drop (i + 1) (map boolean_of (take n items))) f) ≡ (before || said (drop i (map boolean_of (take n items))) f)
said-next items n f i d before now h e =
    let here = eqb (get_or items i d).fact f && (get_or items i d).unknown in
    let left = said (drop (i + 1) (map boolean_of (take n items))) f in
    ap (λ (b : Bool). b || left) e ∙ or_assoc before here left
    ∙ ap (λ (b : Bool). before || b) (or_cond here left ∙ sym (ap (λ (bs : List paper.Boolean). said bs f) (made-next boolean_of items n i d h) ∙ said-first f (get_or items i d) (drop (i + 1) (map boolean_of (take n items)))))

pub said-none : (items : List Boolean) (n f i : ℕ) → min n (length items) ≤ i → said (drop i (map boolean_of (take n items))) f ≡ false
unfolding unknown_in flat_map
said-none items n f i h = ap (λ (bs : List paper.Boolean). said bs f) (made_none boolean_of items n i h)

-- ---- what was seen binds as the definition weighs it

module _ (v e : ℕ) where
  -- what is kept once the first pair was value v with evidence e
  abbrev from : Bool → Bool → Sight
  from d t = record { any = true; value = v; evidence = e; differs = d; both = t }

  abbrev same : List Observation → Bool
  same os = all_of (same_observation (record { value = v; evidence = e })) os

  abbrev agree : List Observation → Bool
  agree os = all_of (λ o. eqb o.value v) os

  module _ (d t : Bool) (o : Observation) where
    at_other : eqb o.value v ≡ false → look_at (from d t) o ≡ from true true
    unfolding look_at
    at_other x = rw x

    at_differs : eqb o.value v ≡ true → eqb o.evidence e ≡ false → look_at (from d t) o ≡ from true t
    unfolding look_at
    at_differs x y = rw (x, y)

    at_same : eqb o.value v ≡ true → eqb o.evidence e ≡ true → look_at (from d t) o ≡ from d t
    unfolding look_at
    at_same x y = rw (x, y)

  look_result : (d t : Bool) (os : List Observation) → look_all (from d t) os ≡ from (d || not (same os)) (t || not (agree os))
  unfolding look_all all_of
  look_result d t [] = ap₂ from (sym (or-false d)) (sym (or-false t))
  look_result d t (o ∷ os) = pick (eqb o.value v) (eqb o.evidence e) refl refl (λ d t. look_result d t os)
    where
      pick : (x y : Bool) → eqb o.value v ≡ x → eqb o.evidence e ≡ y
          → ((d t : Bool) → look_all (from d t) os ≡ from (d || not (same os)) (t || not (agree os)))
          → look_all (look_at (from d t) o) os ≡ from (d || not ((eqb v o.value && eqb e o.evidence) && same os)) (t || not (eqb o.value v && agree os))
      pick false y x k ih =
          ap (λ (s : Sight). look_all s os) (at_other d t o x) ∙ ih true true
          ∙ rw (eqb_swap v o.value, x) (ap₂ from (sym (or-true d)) (sym (or-true t)))
      pick true false x k ih =
          ap (λ (s : Sight). look_all s os) (at_differs d t o x k) ∙ ih true t
          ∙ rw (eqb_swap v o.value, eqb_swap e o.evidence, x, k) (ap (λ (b : Bool). from b (t || not (agree os))) (sym (or-true d)))
      pick true true x k ih = ap (λ (s : Sight). look_all s os) (at_same d t o x k) ∙ ih d t ∙ rw (eqb_swap v o.value, eqb_swap e o.evidence, x, k)

pub look_bound : (os : List Observation) (silent : Bound) → bound_by (look_all nothing os) silent ≡ weighed os silent
unfolding bound_by weighed look_all look_at values_seen
look_bound [] silent = refl
look_bound (o ∷ os) silent =
    ap (λ (s : Sight). bound_by s silent) (look_result o.value o.evidence false false os)
    ∙ pick (same o.value o.evidence os) (agree o.value o.evidence os)
  where
    pick : (a b : Bool)
        → cond (not a) (conflict (cond (not b) both (just (eqb o.value 1)))) (known (eqb o.value 1))
        ≡ cond a (known (eqb o.value 1)) (conflict (cond b (just (eqb o.value 1)) both))
    pick true true = refl
    pick true false = refl
    pick false true = refl
    pick false false = refl

-- whether anything was seen
pub look_any : (os : List Observation) → (look_all nothing os).any ≡ not (eqb (length os) 0)
unfolding look_all look_at
look_any [] = refl
look_any (o ∷ os) = ap (λ (s : Sight). s.any) (look_result o.value o.evidence false false os) ∙ sym (ap not (eqb-suc-zero (length os)))
