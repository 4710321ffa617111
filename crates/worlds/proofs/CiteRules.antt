-- Unions over a set of rules as unions over all rules below their count, and the tests that the rules' citations ask.
use mathlib.Core.Path.{◌≡◌, refl, sym, ap, ap₂, ◌∙◌, subst}
use mathlib.Core.Bool.{Bool, true, false, cond, ◌&&◌, ◌||◌, or_comm, false≢true}
use mathlib.Core.Logic.{◌⊎◌, inl, inr, ⊎_elim}
use mathlib.Core.List.{List, [], ◌∷◌}
use Prim.Native.Nat.{ℕ, zero, suc, ◌≤◌, ◌<◌}
use native.Mathlib.Nat.{not-suc-le-zero, le_of_suc-le-suc, zero-lt-suc, lt_of_lt_of_le}
use native.Mathlib.Omega.{arith}
use lib.ListN.{length, get_or}
use lib.Dec.{eqb, ltb}
use borrow.Author.Tests.{ltb-true, lt-ltb, eqb-true}
use Rattle.sets.specs.paper.Sets.{has, one, union, meet, meets, subset, only, lowest, members, any_below, union_below, union_of}
use Rattle.sets.proofs.SetLaws.{has-none, has_one, antisym, ext, has-union, in_meet, of_meet, in_union_l, in_union_r, of_union, and_parts, subset-true, within-subset}
use Rattle.sets.proofs.Closing.{in_one}
use Rattle.sets.proofs.BelowLaws.{any_false, union_find, in_below, of_only, in_only}
use Rattle.sets.proofs.MemberLaws.{member_at, member_place, members-length}
use Rattle.sets.proofs.Local.{which, clash}
use Rattle.sets.proofs.UnionLaws.{union-none}
use Rattle.sets.proofs.TurnLaws.{members-none}
use Rattle.worlds.proofs.CiteLaws.{both_ways, meets_in, meets_of, lowest_in, lowest-below}

-- ---- tests and sets

pub either : (x y : Bool) → (x || y) ≡ true → (x ≡ true) ⊎ (y ≡ true)
either true y e = inl refl
either false y e = inr e

pub or_in : (x y : Bool) → (x ≡ true) ⊎ (y ≡ true) → (x || y) ≡ true
or_in true y h = refl
or_in false y (inl e) = absurd (false≢true e)
or_in false y (inr e) = e

pub only_none : (b : Bool) → only b 0 ≡ 0
only_none true = refl
only_none false = refl

pub only-both : (x y : Bool) (s : ℕ) → only x (only y s) ≡ only (x && y) s
only-both true y s = refl
only-both false y s = refl

pub union_comm : (a b : ℕ) → union a b ≡ union b a
union_comm a b = ext (union a b) (union b a) (λ q. has-union a b q ∙ or_comm (has a q) (has b q) ∙ sym (has-union b a q))

pub lowest-one : (p : ℕ) → p < 64 → lowest (one p) ≡ p
lowest-one p l =
    let h = lowest_in (one p) (lowest-below (one p) p (in_one p) l) in
    sym (eqb-true p (lowest (one p)) (sym (has_one p (lowest (one p))) ∙ h))

-- both ends in the block
pub ends-inside : (l r b : ℕ) → subset (union (one l) (one r)) b ≡ (has b l && has b r)
ends-inside l r b = both_ways (subset (union (one l) (one r)) b) (has b l && has b r) out into
  where
    out : subset (union (one l) (one r)) b ≡ true → (has b l && has b r) ≡ true
    out e =
        let w = subset-true (union (one l) (one r)) b e in
        ap₂ ◌&&◌ (w.at l ((in_union_l (one l) (one r)).at l (in_one l))) (w.at r ((in_union_r (one l) (one r)).at r (in_one r)))

    at : (x q : ℕ) → has b x ≡ true → has (one x) q ≡ true → has b q ≡ true
    at x q h e = ap (has b) (sym (eqb-true x q (sym (has_one x q) ∙ e))) ∙ h

    into : (has b l && has b r) ≡ true → subset (union (one l) (one r)) b ≡ true
    into e =
        let t = and_parts (has b l) (has b r) e in
        within-subset (union (one l) (one r)) b (record { at = λ q h. ⊎_elim (at l q t.0) (at r q t.1) (of_union (one l) (one r) q h) })

-- a person of two sets
pub meets-person : (p m b : ℕ) → meets (meet (one p) m) b ≡ (has b p && has m p)
meets-person p m b = both_ways (meets (meet (one p) m) b) (has b p && has m p) out into
  where
    out : meets (meet (one p) m) b ≡ true → (has b p && has m p) ≡ true
    out e =
        let w = meets_of (meet (one p) m) b e in
        let h = of_meet (one p) m w.0 w.1 in
        let is = eqb-true p w.0 (sym (has_one p w.0) ∙ h.0) in
        ap₂ ◌&&◌ (ap (has b) is ∙ w.2) (ap (has m) is ∙ h.1)

    into : (has b p && has m p) ≡ true → meets (meet (one p) m) b ≡ true
    into e =
        let t = and_parts (has b p) (has m p) e in
        meets_in (meet (one p) m) b p (in_meet (one p) m p (in_one p) t.1) t.0

-- ---- loops below a number, and over a set of rules

pub any_in : (n : ℕ) (f : ℕ → Bool) (i : ℕ) → i < n → f i ≡ true → any_below n f ≡ true
any_in n f i l h = ⊎_elim (λ e. e) (λ e. clash h (any_false n f e i l)) (which (any_below n f))

pub any_of_lem : (n : ℕ) (f : ℕ → Bool) → any_below n f ≡ true → (i : ℕ) × (i < n) × (f i ≡ true)
unfolding any_below
any_of_lem zero f e = absurd (false≢true e)
any_of_lem (suc n) f e = pick (either (any_below n f) (f n) e) (any_of_lem n f)
  where
    pick : (any_below n f ≡ true) ⊎ (f n ≡ true) → (any_below n f ≡ true → (i : ℕ) × (i < n) × (f i ≡ true)) → (i : ℕ) × (i < suc n) × (f i ≡ true)
    pick (inl h) ih =
        let r = ih h in
        let l = r.1 in
        (r.0, omega arith, r.2)
    pick (inr h) ih = (n, omega arith, h)

list_find : (f : ℕ → ℕ) (xs : List ℕ) (q : ℕ) → has (union_of f xs) q ≡ true → (j : ℕ) × (j < length xs) × (has (f (get_or xs j 0)) q ≡ true)
unfolding union_of
list_find f [] q e = absurd (false≢true (sym (has-none q) ∙ e))
list_find f (x ∷ xs) q e = pick (of_union (f x) (union_of f xs) q e) (list_find f xs q)
  where
    pick : (has (f x) q ≡ true) ⊎ (has (union_of f xs) q ≡ true) → (has (union_of f xs) q ≡ true → (j : ℕ) × (j < length xs) × (has (f (get_or xs j 0)) q ≡ true))
        → (j : ℕ) × (j < suc (length xs)) × (has (f (get_or (x ∷ xs) j 0)) q ≡ true)
    pick (inl h) ih = (0, zero-lt-suc (length xs), h)
    pick (inr h) ih = let r = ih h in (suc r.0, Prim.Native.Nat.suc-le-suc r.1, r.2)

list_in : (f : ℕ → ℕ) (xs : List ℕ) (j q : ℕ) → j < length xs → has (f (get_or xs j 0)) q ≡ true → has (union_of f xs) q ≡ true
unfolding union_of
list_in f [] j q l h = absurd (not-suc-le-zero l)
list_in f (x ∷ xs) zero q l h = (in_union_l (f x) (union_of f xs)).at q h
list_in f (x ∷ xs) (suc j) q l h = (in_union_r (f x) (union_of f xs)).at q (list_in f xs j q (le_of_suc-le-suc l) h)

-- ONE LAW FOR ALL KINDS: a union over a set of rules is one over all rules below their count
pub rules-same : (n m : ℕ) (f g : ℕ → ℕ) → n ≤ 64 → ((i : ℕ) → has m i ≡ true → i < n) → ((i : ℕ) → i < n → only (has m i) (f i) ≡ g i)
    → union_of f (members m) ≡ union_below n g
rules-same n m f g few inside same =
    antisym (union_of f (members m)) (union_below n g) (record { at = there }) (record { at = back })
  where
    there : (q : ℕ) → has (union_of f (members m)) q ≡ true → has (union_below n g) q ≡ true
    there q e =
        let r = list_find f (members m) q e in
        let i = get_or (members m) r.0 0 in
        let h = member_at m 0 r.0 r.1 in
        (in_below n g i (inside i h)).at q (ap (λ (x : ℕ). has x q) (sym (same i (inside i h))) ∙ (in_only (has m i) (f i) h).at q r.2)

    back : (q : ℕ) → has (union_below n g) q ≡ true → has (union_of f (members m)) q ≡ true
    back q e =
        let r = union_find n g q e in
        let i = r.0 in
        let t = of_only (has m i) (f i) q (ap (λ (x : ℕ). has x q) (same i r.1) ∙ r.2) in
        let j = member_place m i 0 (lt_of_lt_of_le r.1 few) t.0 in
        list_in f (members m) j.0 q (subst (λ (x : ℕ). j.0 < x) (sym (members-length m)) j.1) (ap (λ (x : ℕ). has (f x) q) j.2 ∙ t.1)

-- all rules of a kind
pub rules_all : (n m : ℕ) (f g : ℕ → ℕ) → n ≤ 64 → ((i : ℕ) → has m i ≡ ltb i n) → ((i : ℕ) → i < n → f i ≡ g i) → union_of f (members m) ≡ union_below n g
rules_all n m f g few is same =
    rules-same n m f g few (λ i h. ltb-true i n (sym (is i) ∙ h)) (λ i l. ap (λ (b : Bool). only b (f i)) (is i ∙ lt-ltb i n l) ∙ same i l)

none_of_list : (f : ℕ → ℕ) → ((i : ℕ) → f i ≡ 0) → (xs : List ℕ) → union_of f xs ≡ 0
unfolding union_of
none_of_list f z [] = refl
none_of_list f z (x ∷ xs) = ap₂ union (z x) (none_of_list f z xs) ∙ union-none 0

pub no-members : (f : ℕ → ℕ) → union_of f (members 0) ≡ 0
unfolding union_of
no-members f = ap (union_of f) (members-none 0 refl)

-- rules that are passed over where they concern nobody
pub unless_same : (concerned rules : ℕ) (f : ℕ → ℕ) → (concerned ≡ 0 → (i : ℕ) → f i ≡ 0) → union_of f (members (cond (eqb concerned 0) 0 rules)) ≡ union_of f (members rules)
unless_same concerned rules f z = pick (eqb concerned 0) refl
  where
    pick : (b : Bool) → eqb concerned 0 ≡ b → union_of f (members (cond (eqb concerned 0) 0 rules)) ≡ union_of f (members rules)
    pick true e =
        ap (λ (b : Bool). union_of f (members (cond b 0 rules))) e ∙ no-members f ∙ sym (none_of_list f (z (eqb-true concerned 0 e)) (members rules))
    pick false e = ap (λ (b : Bool). union_of f (members (cond b 0 rules))) e
