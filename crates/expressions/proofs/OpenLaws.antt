-- There are at most as many open decisions as unresolved entries in the plan's lists.
use Prim.Native.Nat.{ℕ, zero, suc, ◌+◌, ◌≤◌, ◌<◌, zero-le}
use mathlib.Core.Path.{◌≡◌, refl, sym, ap, ap₂, ◌∙◌, subst, fun_ext}
use mathlib.Core.Bool.{Bool, true, false, ◌&&◌, ◌||◌, cond, and-true, and-false}
use mathlib.Core.List.{List, [], ◌∷◌, ◌++◌, map, append-nil}
use native.Mathlib.Nat.{le_refl}
use native.Mathlib.Decide.{le_ind}
use native.Mathlib.Numerals.{add-one}
use native.Mathlib.Omega.{arith}
use lib.ListN.{length, get_or, take, length-append}
use lib.Seq.{take-suc, take-length}
use lib.Dec.{eqb}
use borrow.Author.Tests.{eqb-true, ne_eqb}
use Rattle.sets.specs.paper.Sets.{below, any_of, All}
use Rattle.records.specs.paper.Plan.{Plan, Decision, Cut, unresolved_in, unresolved}
use Rattle.records.specs.promises.Sound.{Sound}
use Rattle.sets.proofs.LoopLaws.{length-below, all_append}
use Rattle.records.proofs.DecisionLaws.{unresolved-more}
use Rattle.expressions.specs.paper.Rules.{no_cut, cut_count, edge_count}
use Rattle.expressions.specs.paper.Influence.{Open, has_verdict, open_in, open_below, open_decisions, open_decision, open_touch, decision_touch}
use Rattle.expressions.specs.code.Undecided.{pair_of, open_at, opens_of, Named}
use Rattle.expressions.specs.declared.decisions.Undecided.{Undecided}
use Rattle.expressions.proofs.ListLaws.{length_if}
use Rattle.expressions.proofs.RuleLaws.{below-list}

-- ---- how many numbers below n pass a test

abbrev tally : Bool → ℕ
tally b = cond b 1 0

unfoldable count_below : ℕ → (ℕ → Bool) → ℕ
count_below zero f = 0
count_below (suc n) f = count_below n f + tally (f n)

or_tally : (x y : Bool) → tally (x || y) ≤ tally x + tally y
or_tally true y = omega arith
or_tally false y = omega arith

count_or : (n : ℕ) (f g : ℕ → Bool) → count_below n (λ i. f i || g i) ≤ count_below n f + count_below n g
unfolding count_below
count_or zero f g = zero-le
count_or (suc n) f g = let h = count_or n f g in let k = or_tally (f n) (g n) in omega arith

count_none : (n : ℕ) (f : ℕ → Bool) → ((i : ℕ) → i < n → f i ≡ false) → count_below n f ≡ 0
unfolding count_below
count_none zero f h = refl
count_none (suc n) f h = ap₂ ◌+◌ (count_none n f (λ i k. h i (omega arith))) (ap tally (h n (omega arith)))

-- one number is met once
count-one : (n a : ℕ) → count_below n (λ i. eqb a i) ≤ 1
unfolding count_below
count-one zero a = zero-le
count-one (suc n) a = pick (eqb a n) refl (count-one n a)
  where
    pick : (b : Bool) → eqb a n ≡ b → count_below n (λ i. eqb a i) ≤ 1 → count_below n (λ i. eqb a i) + tally (eqb a n) ≤ 1
    pick true e h =
        let z = count_none n (λ i. eqb a i) (λ i l. ne_eqb a i (λ q. absurd (omega (arith, eqb-true a n e)))) in
        let t = ap tally e in omega arith
    pick false e h = let t = ap tally e in omega arith

-- ---- the open decisions of a cut, and of all cuts

open_count : (ds : List Decision) (c n : ℕ) → length (open_in ds c n) ≡ count_below n (λ e. has_verdict e 3 ds)
unfolding open_in count_below
open_count ds c zero = refl
open_count ds c (suc n) =
    length-append (open_in ds c n) (cond (has_verdict n 3 ds) (pair_of c n ∷ []) []) ∙ ap₂ ◌+◌ (open_count ds c n) (length_if (has_verdict n 3 ds) (pair_of c n))

count-entry : (n : ℕ) (d : Decision) → count_below n (λ e. eqb d.edge e && eqb d.verdict 3) ≤ tally (eqb d.verdict 3)
count-entry n d = pick (eqb d.verdict 3)
  where
    pick : (b : Bool) → count_below n (λ e. eqb d.edge e && b) ≤ tally b
    pick true = subst (λ (f : ℕ → Bool). count_below n f ≤ 1) (fun_ext (λ e. sym (and-true (eqb d.edge e)))) (count-one n d.edge)
    pick false = let z = count_none n (λ e. eqb d.edge e && false) (λ i l. and-false (eqb d.edge i)) in omega arith

count_entries : (n : ℕ) (ds : List Decision) → count_below n (λ e. has_verdict e 3 ds) ≤ unresolved_in ds
unfolding any_of unresolved_in
count_entries n [] = let z = count_none n (λ e. false) (λ i l. refl) in omega arith
count_entries n (d ∷ ds) =
    let h = count_or n (λ e. eqb d.edge e && eqb d.verdict 3) (λ e. has_verdict e 3 ds) in
    let k = count-entry n d in
    let r = count_entries n ds in omega arith

below-few : (cs : List Cut) (edges k : ℕ) → k ≤ length cs → length (open_below cs edges k) ≤ unresolved (take k cs)
unfolding open_below
below-few cs edges zero h = zero-le
below-few cs edges (suc k) h =
    let x = get_or cs k no_cut in
    let l = length-append (open_below cs edges k) (open_in x.decisions k edges) in
    let b = open_count x.decisions k edges in
    let c = count_entries edges x.decisions in
    let e = ap unresolved (take-suc cs k no_cut h) ∙ unresolved-more (take k cs) x in
    let r = below-few cs edges k (omega arith) in
    omega arith

pub open_few : (P : Plan) → length (open_decisions P) ≤ unresolved P.cuts
unfolding open_decisions
open_few P = let h = below-few P.cuts (edge_count P) (length P.cuts) (le_refl (length P.cuts)) in let e = ap unresolved (take-length P.cuts) in omega arith

-- ---- they only grow

grows : (f : ℕ → ℕ) → ((n : ℕ) → f n ≤ f (suc n)) → (m n : ℕ) → m ≤ n → f m ≤ f n
grows f step m n h = le_ind (λ (k : ℕ). f m ≤ f k) (le_refl (f m)) (λ k l r. let s = step k in omega arith) n h

longer : (xs ys : List Open) → length xs ≤ length (xs ++ ys)
longer xs ys = let l = length-append xs ys in omega arith

open_more : (ds : List Decision) (c n : ℕ) → length (open_in ds c n) ≤ length (open_in ds c (suc n))
unfolding open_in
open_more ds c n = longer (open_in ds c n) (cond (has_verdict n 3 ds) (pair_of c n ∷ []) [])

pub open_grows : (ds : List Decision) (c m n : ℕ) → m ≤ n → length (open_in ds c m) ≤ length (open_in ds c n)
open_grows ds c = grows (λ n. length (open_in ds c n)) (open_more ds c)

all_more : (cs : List Cut) (edges k : ℕ) → length (open_below cs edges k) ≤ length (open_below cs edges (suc k))
unfolding open_below
all_more cs edges k = longer (open_below cs edges k) _

all_grows : (cs : List Cut) (edges m n : ℕ) → m ≤ n → length (open_below cs edges m) ≤ length (open_below cs edges n)
all_grows cs edges = grows (λ k. length (open_below cs edges k)) (all_more cs edges)

-- ---- one edge more, and one cut more, at the code's + 1

pub open_yes : (ds : List Decision) (c e : ℕ) → has_verdict e 3 ds ≡ true → open_in ds c (e + 1) ≡ open_in ds c e ++ (pair_of c e ∷ [])
unfolding open_in
open_yes ds c e h = ap (open_in ds c) (add-one e) ∙ ap (λ (b : Bool). open_in ds c e ++ cond b (pair_of c e ∷ []) []) h

pub open_no : (ds : List Decision) (c e : ℕ) → has_verdict e 3 ds ≡ false → open_in ds c (e + 1) ≡ open_in ds c e
unfolding open_in
open_no ds c e h = ap (open_in ds c) (add-one e) ∙ ap (λ (b : Bool). open_in ds c e ++ cond b (pair_of c e ∷ []) []) h ∙ append-nil (open_in ds c e)

pub all_next : (cs : List Cut) (edges k : ℕ) (ds : List Decision) → ((d : Cut) → (get_or cs k d).decisions ≡ ds)
    → open_below cs edges (k + 1) ≡ open_below cs edges k ++ open_in ds k edges
unfolding open_below
all_next cs edges k ds e = ap (open_below cs edges) (add-one k) ∙ ap (λ (x : List Decision). open_below cs edges k ++ open_in x k edges) (e _)

-- ---- the code's list has room for them

opens-length : (u : Undecided) → length (opens_of u) ≡ u.count
unfolding opens_of
opens-length u = length-below u.count (open_at u.cuts u.edges)

-- as many as before, and those that came behind them
pub opens-count : (a b : Undecided) (os : List Open) → opens_of b ≡ opens_of a ++ os → b.count ≡ a.count + length os
opens-count a b os e = sym (opens-length b) ∙ ap length e ∙ length-append (opens_of a) os ∙ ap (λ (n : ℕ). n + length os) (opens-length a)

pub opens-number : (u : Undecided) (os : List Open) → opens_of u ≡ os → u.count ≡ length os
opens-number u os e = sym (opens-length u) ∙ ap length e

pub room : (a b : Undecided) (ds : List Decision) (c e n : ℕ) → opens_of b ≡ opens_of a ++ open_in ds c e → has_verdict e 3 ds ≡ true → e < n
    → a.count + length (open_in ds c n) ≤ 16 → b.count < 16
room a b ds c e n k h l r =
    let x = opens-count a b (open_in ds c e) k in
    let y = ap length (open_yes ds c e h) ∙ length-append (open_in ds c e) (pair_of c e ∷ []) in
    let g = open_grows ds c (e + 1) n (omega arith) in
    omega arith

pub room_all : (cs : List Cut) (edges k n : ℕ) (u : Undecided) (os : List Open) → opens_of u ≡ open_below cs edges k
    → open_below cs edges (k + 1) ≡ open_below cs edges k ++ os → k < n → length (open_below cs edges n) ≤ 16 → u.count + length os ≤ 16
room_all cs edges k n u os e s h r =
    let x = opens-number u (open_below cs edges k) e in
    let y = ap length s ∙ length-append (open_below cs edges k) os in
    let g = all_grows cs edges (k + 1) n (omega arith) in
    omega arith

pub all_few : (P : Plan) → Sound P → length (open_below P.cuts (edge_count P) (cut_count P)) ≤ 16
unfolding open_decisions
all_few P sound = let f = open_few P in let d = sound.decision_limit in omega arith

-- ---- they name cuts and edges of the plan

some-named : (k n c m : ℕ) (ds : List Decision) → c < k → m ≤ n → All (Named k n) (open_in ds c m)
unfolding open_in
some-named k n c zero ds h l = tt
some-named k n c (suc m) ds h l = all_append (Named k n) (open_in ds c m) _ (some-named k n c m ds h (omega arith)) (pick (has_verdict m 3 ds))
  where
    pick : (b : Bool) → All (Named k n) (cond b (pair_of c m ∷ []) [])
    pick true = ((h, l), tt)
    pick false = tt

below-named : (cs : List Cut) (k n m : ℕ) → m ≤ k → All (Named k n) (open_below cs n m)
unfolding open_below
below-named cs k n zero l = tt
below-named cs k n (suc m) l = all_append (Named k n) (open_below cs n m) _ (below-named cs k n m (omega arith)) (some-named k n m n _ l (le_refl n))

pub all_named : (P : Plan) → All (Named (cut_count P) (edge_count P)) (open_decisions P)
unfolding open_decisions
all_named P = below-named P.cuts (cut_count P) (edge_count P) (cut_count P) (le_refl (cut_count P))

-- "for a decision, the cut's members and the edge's ends"
pub open_touches : (P : Plan) → map (open_touch P) (open_decisions P) ≡ below (length (open_decisions P)) (decision_touch P)
unfolding decision_touch open_decision
open_touches P = sym (below-list (open_touch P) _ (open_decisions P))
