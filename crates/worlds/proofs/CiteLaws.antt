-- Citations gathered at the lowest persons of blocks: what adding at one block does, and the loops over rules and over persons that add.
use mathlib.Core.Path.{◌≡◌, refl, sym, ap, ap₂, ◌∙◌, subst}
use mathlib.Core.Bool.{Bool, true, false, cond, not, ◌&&◌, ◌||◌, true≢false}
use mathlib.Core.Logic.{⊎_elim}
use mathlib.Core.List.{List, ◌∷◌}
use Prim.Native.Nat.{ℕ, zero, suc, ◌/◌, ◌%◌, ◌^◌, ◌≤◌, ◌<◌}
use native.Mathlib.Nat.{not-suc-le-zero, le_of_suc-le-suc}
use native.Mathlib.Omega.{arith}
use lib.ListN.{length, set}
use lib.Seq.{get_or-set_same, get_or-set_other}
use lib.Dec.{eqb}
use lib.Bits.{bit_and, xor_add_and}
use lib.Count.{count_trailing_zeros, under}
use borrow.Author.Tests.{eqb-true, eqb-false, eq-eqb, not-true}
use Rattle.sets.specs.paper.Sets.{odd, has, union, minus, disjoint, meets, only, lowest, members, union_of}
use Rattle.sets.proofs.SetLaws.{has-zero, has-suc, has-none, has-and, ext, has_high, member, in_minus, of_minus, meeting, disjoint-false, lt_or_le, trailing_least}
use Rattle.sets.proofs.Local.{clash}
use Rattle.sets.proofs.UnionLaws.{union-none, union_assoc, union-first, union_end, union_twice}
use Rattle.worlds.specs.code.Over.{entry}
use Rattle.worlds.specs.code.Blocks.{Parted}
use Rattle.worlds.specs.code.Citing.{CitesIn}
use Rattle.sets.specs.code.Members.{Turn}
use Rattle.sets.proofs.TurnLaws.{members-none}

-- ---- tests that say the same, and sets that meet

pub both_ways : (x y : Bool) → (x ≡ true → y ≡ true) → (y ≡ true → x ≡ true) → x ≡ y
both_ways true y f g = sym (f refl)
both_ways false true f g = g refl
both_ways false false f g = refl

pub none_of : (x : Bool) → (x ≡ true → ⊥) → x ≡ false
none_of true f = absurd (f refl)
none_of false f = refl

pub meets_in : (a b p : ℕ) → has a p ≡ true → has b p ≡ true → meets a b ≡ true
unfolding meets
meets_in a b p x y = ap not (meeting a b p x y)

pub meets_of : (a b : ℕ) → meets a b ≡ true → (p : ℕ) × (has a p ≡ true) × (has b p ≡ true)
unfolding meets
meets_of a b e = disjoint-false a b (not-true (disjoint a b) e)

pub minus_le : (a b : ℕ) → minus a b ≤ a
unfolding minus
minus_le a b =
    let c = bit_and a b in
    let same : bit_and a c ≡ c = ext (bit_and a c) c (λ p. has-and a c p ∙ ap (λ (x : Bool). has a p && x) (has-and a b p) ∙ twice (has a p) (has b p) ∙ sym (has-and a b p)) in
    omega (arith, xor_add_and a c, same)
  where
    twice : (x y : Bool) → (x && (x && y)) ≡ (x && y)
    twice true y = refl
    twice false y = refl

-- ---- the lowest person of a set

low_in : (k m : ℕ) → count_trailing_zeros k m < k → has m (count_trailing_zeros k m) ≡ true
unfolding count_trailing_zeros
low_in zero m l = absurd (not-suc-le-zero l)
low_in (suc k) m l = pick (m % 2) refl (λ h. low_in k (m / 2) h)
  where
    t : ℕ
    t = count_trailing_zeros k (m / 2)

    pick : (d : ℕ) → m % 2 ≡ d → (t < k → has (m / 2) t ≡ true) → has m (under (m % 2) t) ≡ true
    pick zero e ih =
        let is : under (m % 2) t ≡ suc t = ap (λ (x : ℕ). under x t) e in
        ap (has m) is ∙ has-suc m t ∙ ih (le_of_suc-le-suc (subst (λ (x : ℕ). x < suc k) is l))
    pick (suc d) e ih = ap (λ (x : ℕ). has m (under x t)) e ∙ has-zero m ∙ ap odd e

pub lowest_in : (m : ℕ) → lowest m < 64 → has m (lowest m) ≡ true
unfolding lowest
lowest_in m l = low_in 64 m l

-- a set with a person below 64 has its lowest below 64
pub lowest-below : (m p : ℕ) → has m p ≡ true → p < 64 → lowest m < 64
unfolding lowest
lowest-below m p h l = ⊎_elim (λ k. k) (λ k. clash h (trailing_least 64 m p (omega arith))) (lt_or_le (count_trailing_zeros 64 m) 64)

-- ---- blocks by their lowest persons

module _ (blocks : List ℕ) (live : ℕ) (fits : live < 2 ^ 64) (B : Parted live blocks) where
  pub live_below : (p : ℕ) → has live p ≡ true → p < 64
  live_below p l = ⊎_elim (λ k. k) (λ k. clash l (has_high 64 live p fits k)) (lt_or_le p 64)

  head : (p : ℕ) → has live p ≡ true → has (entry blocks p) (lowest (entry blocks p)) ≡ true
  head p l = lowest_in (entry blocks p) (lowest-below (entry blocks p) p (B.self p l) (live_below p l))

  same_head : (p q : ℕ) → has live p ≡ true → has live q ≡ true → lowest (entry blocks p) ≡ lowest (entry blocks q) → entry blocks p ≡ entry blocks q
  same_head p q l k e =
      sym (B.agreed p (lowest (entry blocks p)) (head p l)) ∙ ap (entry blocks) e ∙ B.agreed q (lowest (entry blocks q)) (head q k)

  -- who has a block is live, and in it
  pub owns : (q : ℕ) → (entry blocks q ≡ 0 → ⊥) → has live q ≡ true
  owns q n = let w = member (entry blocks q) n in B.owner q w.0 w.1

  -- a live person's block is not empty, and nobody past the masks is in it
  pub filled : (p : ℕ) → has live p ≡ true → entry blocks p ≡ 0 → ⊥
  filled p l e = true≢false (sym (B.self p l) ∙ ap (λ (x : ℕ). has x p) e ∙ has-none p)

  pub nobody : (p : ℕ) → has (entry blocks p) 64 ≡ false
  nobody p = none_of (has (entry blocks p) 64) (λ h. true≢false (sym (B.alive p 64 h) ∙ has_high 64 live 64 fits (omega arith)))

-- ---- adding at one block

-- nothing is added where no live person's block cites
pub cites-none : (blocks : List ℕ) (cites : ℕ → ℕ) (cited : List ℕ) → ((live : ℕ) → live < 2 ^ 64 → Parted live blocks → (p : ℕ) → has live p ≡ true → cites (entry blocks p) ≡ 0)
    → CitesIn blocks cites cited cited
cites-none blocks cites cited none = record {
  at = λ live fits B p l. sym (ap (union (entry cited (lowest (entry blocks p)))) (none live fits B p l) ∙ union-none (entry cited (lowest (entry blocks p))));
}

-- THE STEP: at the lowest person of one block, for a test that holds of that block alone
pub cites-add : (blocks cited : List ℕ) (q k v what : ℕ) (hits : ℕ → Bool) → length cited ≡ 64 → (k ≡ lowest (entry blocks q)) × (k < 64) → v ≡ union (entry cited k) what
    → (entry blocks q ≡ 0 → ⊥) → ((live : ℕ) → Parted live blocks → has live q ≡ true → hits (entry blocks q) ≡ true)
    → ((live : ℕ) → Parted live blocks → (p : ℕ) → has live p ≡ true → hits (entry blocks p) ≡ true → entry blocks q ≡ entry blocks p)
    → CitesIn blocks (λ b. only (hits b) what) cited (set cited k v)
cites-add blocks cited q k v what hits long low e n hit only-it = record { at = λ live fits B p l. pick live fits B p l (eqb k (lowest (entry blocks p))) refl }
  where
    pick : (live : ℕ) → live < 2 ^ 64 → Parted live blocks → (p : ℕ) → has live p ≡ true → (b : Bool) → eqb k (lowest (entry blocks p)) ≡ b
        → entry (set cited k v) (lowest (entry blocks p)) ≡ union (entry cited (lowest (entry blocks p))) (only (hits (entry blocks p)) what)
    pick live fits B p l true z =
        let same = eqb-true k (lowest (entry blocks p)) z in
        let mine = owns blocks live fits B q n in
        let is = same_head blocks live fits B q p mine l (sym low.0 ∙ same) in
        ap (entry (set cited k v)) (sym same) ∙ get_or-set_same cited k v 0 (omega (arith, low.1, long)) ∙ e
        ∙ ap₂ (λ (h : ℕ) (x : Bool). union (entry cited h) (only x what)) same (sym (hit live B mine) ∙ ap hits is)
    pick live fits B p l false z =
        let miss = none_of (hits (entry blocks p)) (λ x. eqb-false k (lowest (entry blocks p)) z (low.0 ∙ ap lowest (only-it live B p l x))) in
        get_or-set_other cited k (lowest (entry blocks p)) v 0 (λ x. eqb-false k (lowest (entry blocks p)) z (sym x))
        ∙ sym (ap (λ (x : Bool). union (entry cited (lowest (entry blocks p))) (only x what)) miss ∙ union-none (entry cited (lowest (entry blocks p))))

-- two additions are one of both
pub cites-both : {blocks : List ℕ} {f g : ℕ → ℕ} {a b c : List ℕ} → CitesIn blocks f a b → CitesIn blocks g b c → CitesIn blocks (λ x. union (f x) (g x)) a c
cites-both {blocks} {f} {g} {a} {b} {c} C D = record {
  at = λ live fits B p l.
      let s = entry blocks p in
      let h = lowest s in
      D.at live fits B p l ∙ ap (λ (x : ℕ). union x (g s)) (C.at live fits B p l) ∙ union_assoc (entry a h) (f s) (g s);
}

pub cites_as : {blocks : List ℕ} {f : ℕ → ℕ} {a b : List ℕ} (g : ℕ → ℕ) → ((s : ℕ) → f s ≡ g s) → CitesIn blocks f a b → CitesIn blocks g a b
cites_as {blocks} {f} {a} {b} g same C = record {
  at = λ live fits B p l. C.at live fits B p l ∙ ap (union (entry a (lowest (entry blocks p)))) (same (entry blocks p));
}

-- ---- a loop over rules, of which m are left

pub record Left (blocks : List ℕ) (f : ℕ → ℕ → ℕ) (rules : ℕ) (before after : List ℕ) (m : ℕ) : Type 0 where
  pub at : (live : ℕ) → live < 2 ^ 64 → Parted live blocks → (p : ℕ) → has live p ≡ true
      → union (entry after (lowest (entry blocks p))) (union_of (λ i. f i (entry blocks p)) (members m))
      ≡ union (entry before (lowest (entry blocks p))) (union_of (λ i. f i (entry blocks p)) (members rules))

pub left_all : (blocks : List ℕ) (f : ℕ → ℕ → ℕ) (rules : ℕ) (before : List ℕ) → Left blocks f rules before before rules
left_all blocks f rules before = record { at = λ live fits B p l. refl }

pub left-next : {blocks : List ℕ} {f : ℕ → ℕ → ℕ} {rules : ℕ} {before after : List ℕ} (next : List ℕ) {m : ℕ} (r t : ℕ) → Left blocks f rules before after m
    → t ≡ lowest m → members m ≡ lowest m ∷ members r → CitesIn blocks (f t) after next → Left blocks f rules before next r
left-next {blocks} {f} {rules} {before} {after} next {m} r t L z e C = record {
  at = λ live fits B p l.
      let s = entry blocks p in
      union-first (λ i. f i s) (entry after (lowest s)) (entry next (lowest s)) (f t s) (members m) (members r) (lowest m) e (C.at live fits B p l) (ap (λ (i : ℕ). f i s) z)
      ∙ L.at live fits B p l;
}

-- the same at a turn
pub left-turn : {blocks : List ℕ} {f : ℕ → ℕ → ℕ} {rules : ℕ} {before after next : List ℕ} {m r t : ℕ} → Left blocks f rules before after m
    → Turn m t r → CitesIn blocks (f t) after next → Left blocks f rules before next r
left-turn {next = next} {r = r} {t = t} L turn C = left-next next r t L turn.first.0 turn.rest.0 C

pub left-none : {blocks : List ℕ} {f : ℕ → ℕ → ℕ} {rules : ℕ} {before after : List ℕ} {m : ℕ} → m ≡ 0 → Left blocks f rules before after m
    → CitesIn blocks (λ b. union_of (λ i. f i b) (members rules)) before after
left-none {blocks} {f} {rules} {before} {after} {m} e L = record {
  at = λ live fits B p l.
      sym (union_end (λ i. f i (entry blocks p)) (entry after (lowest (entry blocks p))) (members m) (members-none m e)) ∙ L.at live fits B p l;
}

-- ---- a loop over persons, of whom m are left, a block at a time

pub record Unmet (blocks : List ℕ) (what persons : ℕ) (before after : List ℕ) (m : ℕ) : Type 0 where
  pub at : (live : ℕ) → live < 2 ^ 64 → Parted live blocks → (p : ℕ) → has live p ≡ true
      → union (entry after (lowest (entry blocks p))) (only (meets m (entry blocks p)) what)
      ≡ union (entry before (lowest (entry blocks p))) (only (meets persons (entry blocks p)) what)

-- a block that is not the one of q has of m what is left without q and its block
meets-same : (blocks : List ℕ) (live : ℕ) → Parted live blocks → (m r q p : ℕ) → ((i : ℕ) → has m i ≡ (eqb q i || has r i)) → (entry blocks p ≡ entry blocks q → ⊥)
    → meets (minus r (entry blocks q)) (entry blocks p) ≡ meets m (entry blocks p)
meets-same blocks live B m r q p turn other = both_ways (meets (minus r b) s) (meets m s) more less
  where
    b : ℕ
    b = entry blocks q

    s : ℕ
    s = entry blocks p

    more : meets (minus r b) s ≡ true → meets m s ≡ true
    more e =
        let w = meets_of (minus r b) s e in
        meets_in m s w.0 (turn w.0 ∙ ap (λ (x : Bool). eqb q w.0 || x) (of_minus r b w.0 w.1).0 ∙ mathlib.Core.Bool.or-true (eqb q w.0)) w.2

    less : meets m s ≡ true → meets (minus r b) s ≡ true
    less e =
        let w = meets_of m s e in
        let i = w.0 in
        let here = B.agreed p i w.2 in
        let apart-q = none_of (eqb q i) (λ z. other (sym here ∙ ap (entry blocks) (sym (eqb-true q i z)))) in
        let apart-b = none_of (has b i) (λ z. other (sym here ∙ B.agreed q i z)) in
        meets_in (minus r b) s i (in_minus r b i (sym (turn i ∙ ap (λ (x : Bool). x || has r i) apart-q) ∙ w.1) apart-b) w.2

pub unmet_next : {blocks : List ℕ} {what persons : ℕ} {before after : List ℕ} (next : List ℕ) {m : ℕ} (r q : ℕ) → Unmet blocks what persons before after m
    → ((i : ℕ) → has m i ≡ (eqb q i || has r i)) → CitesIn blocks (λ b. only (eqb b (entry blocks q)) what) after next
    → Unmet blocks what persons before next (minus r (entry blocks q))
unmet_next {blocks} {what} {persons} {before} {after} next {m} r q U turn C = record { at = λ live fits B p l. step live fits B p l ∙ U.at live fits B p l }
  where
    left : ℕ
    left = minus r (entry blocks q)

    step : (live : ℕ) → live < 2 ^ 64 → Parted live blocks → (p : ℕ) → has live p ≡ true
        → union (entry next (lowest (entry blocks p))) (only (meets left (entry blocks p)) what) ≡ union (entry after (lowest (entry blocks p))) (only (meets m (entry blocks p)) what)
    step live fits B p l = ap (λ (x : ℕ). union x (only (meets left s) what)) (C.at live fits B p l) ∙ pick (eqb s (entry blocks q)) refl
      where
        s : ℕ
        s = entry blocks p

        x : ℕ
        x = entry after (lowest s)

        again : (b : Bool) → union (union x what) (only b what) ≡ union x what
        again true = union_twice x what
        again false = union-none (union x what)

        pick : (b : Bool) → eqb s (entry blocks q) ≡ b → union (union x (only (eqb s (entry blocks q)) what)) (only (meets left s) what) ≡ union x (only (meets m s) what)
        pick true e =
            let is = eqb-true s (entry blocks q) e in
            let mine = ap (λ (y : ℕ). has y q) is ∙ B.self q (owns blocks live fits B q (λ z. filled blocks live fits B p l (is ∙ z))) in
            let met = meets_in m s q (turn q ∙ ap (λ (y : Bool). y || has r q) (eq-eqb q q refl)) mine in
            ap (λ (y : Bool). union (union x (only y what)) (only (meets left s) what)) e ∙ again (meets left s) ∙ sym (ap (λ (y : Bool). union x (only y what)) met)
        pick false e =
            ap (λ (y : Bool). union (union x (only y what)) (only (meets left s) what)) e ∙ ap (λ (y : ℕ). union y (only (meets left s) what)) (union-none x)
            ∙ ap (λ (y : Bool). union x (only y what)) (meets-same blocks live B m r q p turn (eqb-false s (entry blocks q) e))

pub unmet_none : {blocks : List ℕ} {what persons : ℕ} {before after : List ℕ} {m : ℕ} → m ≡ 0 → Unmet blocks what persons before after m
    → CitesIn blocks (λ b. only (meets persons b) what) before after
unmet_none {blocks} {what} {persons} {before} {after} {m} e U = record {
  at = λ live fits B p l.
      let s = entry blocks p in
      let none = none_of (meets m s) (λ z. let w = meets_of m s z in true≢false (sym w.1 ∙ ap (λ (x : ℕ). has x w.0) e ∙ has-none w.0)) in
      sym (ap (λ (x : Bool). union (entry after (lowest s)) (only x what)) none ∙ union-none (entry after (lowest s))) ∙ U.at live fits B p l;
}

-- ---- a set added where a test holds

pub added_if : (b : Bool) (x y : ℕ) → cond b (union x y) x ≡ union x (only b y)
added_if true x y = refl
added_if false x y = sym (union-none x)

-- what the code has after a turn
pub stored : {blocks : List ℕ} {f : ℕ → ℕ} {a : List ℕ} (next kept : List ℕ) → next ≡ kept → CitesIn blocks f a kept → length kept ≡ 64 → (CitesIn blocks f a next) × (length next ≡ 64)
stored {blocks} {f} {a} next kept e C l = (subst (CitesIn blocks f a) (sym e) C, ap length e ∙ l)
