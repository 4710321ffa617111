-- Laws of the closing of a set under a list of sets: it is the least closed set that holds what it is made of.
use mathlib.Core.Path.{◌≡◌, refl, sym, ap, ◌∙◌, subst}
use mathlib.Core.Bool.{Bool, true, false, cond, true≢false}
use mathlib.Core.Logic.{⊎_elim}
use mathlib.Core.List.{List, [], ◌∷◌, map}
use Prim.Native.Nat.{ℕ, zero, suc, ◌+◌, ◌≤◌, ◌<◌, zero-le}
use native.Mathlib.Nat.{le_refl}
use native.Mathlib.Omega.{arith}
use lib.ListN.{length, get_or, drop}
use lib.Bits.{bit_and, bit_or}
use lib.Seq.{drop-cons}
use native.Mathlib.Numerals.{add-one}
use lib.Dec.{eqb}
use borrow.Author.Tests.{eqb-true, eqb-false, eq-eqb, ne_eqb}
use Rattle.sets.specs.paper.Sets.{has, union, meet, minus, disjoint, subset, one, absorb, pass, passes, close_of}
use Rattle.sets.proofs.SetLaws.{Within, has_one, antisym, within-refl, along, thru, in_union_l, in_union_r, of_union, in_meet, of_meet, in_minus, of_minus, disjoint-false, meeting, subset-true, subset-false, within-subset}

-- ---- what it means: m is closed where each group that meets m lies in m

abbrev pub Takes : ℕ → ℕ → Type 0
Takes s m = (p : ℕ) → has s p ≡ true → has m p ≡ true → Within s m

abbrev pub Closed : List ℕ → ℕ → Type 0
Closed [] m = Unit {0}
Closed (s ∷ ss) m = Takes s m × Closed ss m

-- ---- one group

-- `absorb` by its test
absorb_apart : (s m : ℕ) → disjoint s m ≡ true → absorb s m ≡ m
unfolding absorb
absorb_apart s m e = ap (λ (b : Bool). cond b m (union m s)) e

absorb-meets : (s m : ℕ) → disjoint s m ≡ false → absorb s m ≡ union m s
unfolding absorb
absorb-meets s m e = ap (λ (b : Bool). cond b m (union m s)) e

pub absorb-within : (s m : ℕ) → Within m (absorb s m)
absorb-within s m = pick (disjoint s m) refl
  where
    pick : (b : Bool) → disjoint s m ≡ b → Within m (absorb s m)
    pick true e = along (sym (absorb_apart s m e))
    pick false e = thru (in_union_l m s) (along (sym (absorb-meets s m e)))

absorb_least : (s m c : ℕ) → Within m c → Takes s c → Within (absorb s m) c
absorb_least s m c f t = pick (disjoint s m) refl
  where
    pick : (b : Bool) → disjoint s m ≡ b → Within (absorb s m) c
    pick true e = thru (along (absorb_apart s m e)) f
    pick false e =
        let w = disjoint-false s m e in
        thru (along (absorb-meets s m e)) record { at = λ p h. ⊎_elim (f.at p) ((t w.0 w.1 (f.at w.0 w.2)).at p) (of_union m s p h) }

absorb_takes : (s m p : ℕ) → has s p ≡ true → has m p ≡ true → Within s (absorb s m)
absorb_takes s m p x y = thru (in_union_r m s) (along (sym (absorb-meets s m (meeting s m p x y))))

-- what changes takes the group in
absorb_new : (s m : ℕ) → (absorb s m ≡ m → ⊥) → Within s (absorb s m)
absorb_new s m n = pick (disjoint s m) refl
  where
    pick : (b : Bool) → disjoint s m ≡ b → Within s (absorb s m)
    pick true e = absurd (n (absorb_apart s m e))
    pick false e = thru (in_union_r m s) (along (sym (absorb-meets s m e)))

-- ---- a pass

pub pass-within : (ss : List ℕ) (m : ℕ) → Within m (pass ss m)
unfolding pass
pass-within [] m = within-refl m
pass-within (s ∷ ss) m = thru (absorb-within s m) (pass-within ss (absorb s m))

pub pass_least : (ss : List ℕ) (m c : ℕ) → Within m c → Closed ss c → Within (pass ss m) c
unfolding pass
pass_least [] m c f t = f
pass_least (s ∷ ss) m c f t = pass_least ss (absorb s m) c (absorb_least s m c f t.0) t.1

pub fixed_closed : (ss : List ℕ) (m : ℕ) → pass ss m ≡ m → Closed ss m
unfolding pass
fixed_closed [] m e = tt
fixed_closed (s ∷ ss) m e =
    let same : absorb s m ≡ m = antisym (absorb s m) m (thru (pass-within ss (absorb s m)) (along e)) (absorb-within s m) in
    (λ p x y. thru (absorb_takes s m p x y) (along same), fixed_closed ss m (ap (pass ss) (sym same) ∙ e))

pub closed_fixed : (ss : List ℕ) (m : ℕ) → Closed ss m → pass ss m ≡ m
closed_fixed ss m t = antisym (pass ss m) m (pass_least ss m m (within-refl m) t) (pass-within ss m)

-- ---- how many groups are not inside m: it falls with each pass that adds something

outside : ℕ → ℕ → ℕ
outside s m = cond (subset s m) 0 1

unfoldable pub left : List ℕ → ℕ → ℕ
unfolding outside
left [] m = 0
left (s ∷ ss) m = outside s m + left ss m

outside_in : (s m : ℕ) → Within s m → outside s m ≡ 0
unfolding outside
outside_in s m f = ap (λ (b : Bool). cond {A = ℕ} b 0 1) (within-subset s m f)

outside_one : (s m : ℕ) → (Within s m → ⊥) → outside s m ≡ 1
unfolding outside
outside_one s m n = pick (subset s m) refl
  where
    pick : (b : Bool) → subset s m ≡ b → cond {A = ℕ} (subset s m) 0 1 ≡ 1
    pick true e = absurd (n (subset-true s m e))
    pick false e = ap (λ (b : Bool). cond {A = ℕ} b 0 1) e

outside_le : (s m : ℕ) → outside s m ≤ 1
unfolding outside
outside_le s m = pick (subset s m)
  where
    pick : (b : Bool) → cond b 0 1 ≤ 1
    pick true = zero-le
    pick false = le_refl 1

outside_mono : (s m n : ℕ) → Within m n → outside s n ≤ outside s m
outside_mono s m n f = pick (subset s m) refl
  where
    pick : (b : Bool) → subset s m ≡ b → outside s n ≤ outside s m
    pick true e = let z = outside_in s n (thru (subset-true s m e) f) in omega arith
    pick false e =
        let w = subset-false s m e in
        let o = outside_one s m (λ g. true≢false (sym (g.at w.0 w.1) ∙ w.2)) in
        let l = outside_le s n in omega arith

left_le : (ss : List ℕ) (m : ℕ) → left ss m ≤ length ss
unfolding left
left_le [] m = zero-le
left_le (s ∷ ss) m = let h = left_le ss m in let l = outside_le s m in omega arith

left_mono : (ss : List ℕ) (m n : ℕ) → Within m n → left ss n ≤ left ss m
unfolding left
left_mono [] m n f = zero-le
left_mono (s ∷ ss) m n f = native.Mathlib.Nat.add-le-add (outside_mono s m n f) (left_mono ss m n f)

pub left-drop : (ss : List ℕ) (m n : ℕ) → (pass ss m ≡ m → ⊥) → Within (pass ss m) n → left ss n < left ss m
unfolding left pass
left-drop [] m n d f = absurd (d refl)
left-drop (s ∷ ss) m n d f = pick (eqb (absorb s m) m) refl (λ d' f'. left-drop ss m n d' f')
  where
    pick : (b : Bool) → eqb (absorb s m) m ≡ b → ((pass ss m ≡ m → ⊥) → Within (pass ss m) n → left ss n < left ss m)
        → outside s n + left ss n < outside s m + left ss m
    pick true e ih =
        let same = eqb-true (absorb s m) m e in
        let i = ih (λ z. d (ap (pass ss) same ∙ z)) (subst (λ (x : ℕ). Within (pass ss x) n) same f) in
        let o = outside_mono s m n (thru (absorb-within s m) (thru (pass-within ss (absorb s m)) f)) in
        omega arith
    pick false e ih =
        let new = eqb-false (absorb s m) m e in
        let z = outside_in s n (thru (absorb_new s m new) (thru (pass-within ss (absorb s m)) f)) in
        let o = outside_one s m (λ g. new (antisym (absorb s m) m (absorb_least s m m (within-refl m) (λ p x y. g)) (absorb-within s m))) in
        let l = left_mono ss m n (thru (absorb-within s m) (thru (pass-within ss (absorb s m)) f)) in
        omega arith

-- ---- the closure is closed, holds what it is made of, and is the least such set

passes_fixed : (k : ℕ) (ss : List ℕ) (m : ℕ) → pass ss m ≡ m → passes k ss m ≡ m
unfolding passes
passes_fixed zero ss m e = refl
passes_fixed (suc k) ss m e = stops (eq-eqb (pass ss m) m e)
  where
    stops : {b : Bool} → b ≡ true → (elim b as (λ c. ℕ) [ true ↦ m | false ↦ passes k ss (pass ss m) ]) ≡ m
    stops e = ap (λ (c : Bool). elim c as (λ c. ℕ) [ true ↦ m | false ↦ passes k ss (pass ss m) ]) e

-- one pass more, whether or not it adds someone
pub passes-next : (k : ℕ) (ss : List ℕ) (m : ℕ) → passes (suc k) ss m ≡ passes k ss (pass ss m)
unfolding passes
passes-next k ss m = pick (eqb (pass ss m) m) refl
  where
    pick : (b : Bool) → eqb (pass ss m) m ≡ b → (elim b as (λ c. ℕ) [ true ↦ m | false ↦ passes k ss (pass ss m) ]) ≡ passes k ss (pass ss m)
    pick true e =
        let same = eqb-true (pass ss m) m e in
        sym (ap (passes k ss) same ∙ passes_fixed k ss m same)
    pick false e = refl

passes-closed : (k : ℕ) (ss : List ℕ) (m : ℕ) → left ss m ≤ k → Closed ss (passes k ss m)
passes-closed zero ss m l = pick (eqb (pass ss m) m) refl
  where
    pick : (b : Bool) → eqb (pass ss m) m ≡ b → Closed ss (passes zero ss m)
    pick true e = (unfold passes in fixed_closed ss m (eqb-true (pass ss m) m e))
    pick false e = let h = left-drop ss m (pass ss m) (eqb-false (pass ss m) m e) (within-refl (pass ss m)) in absurd (omega arith)
passes-closed (suc k) ss m l = subst (Closed ss) (sym (passes-next k ss m)) (pick (eqb (pass ss m) m) refl (λ h. passes-closed k ss (pass ss m) h))
  where
    pick : (b : Bool) → eqb (pass ss m) m ≡ b → (left ss (pass ss m) ≤ k → Closed ss (passes k ss (pass ss m))) → Closed ss (passes k ss (pass ss m))
    pick true e ih =
        let same = eqb-true (pass ss m) m e in
        subst (Closed ss) (sym (ap (passes k ss) same ∙ passes_fixed k ss m same)) (fixed_closed ss m same)
    pick false e ih = ih (let h = left-drop ss m (pass ss m) (eqb-false (pass ss m) m e) (within-refl (pass ss m)) in omega arith)

passes-within : (k : ℕ) (ss : List ℕ) (m : ℕ) → Within m (passes k ss m)
passes-within zero ss m = (unfold passes in within-refl m)
passes-within (suc k) ss m = subst (Within m) (sym (passes-next k ss m)) (thru (pass-within ss m) (passes-within k ss (pass ss m)))

passes_least : (k : ℕ) (ss : List ℕ) (m c : ℕ) → Within m c → Closed ss c → Within (passes k ss m) c
passes_least zero ss m c f t = (unfold passes in f)
passes_least (suc k) ss m c f t = subst (λ (x : ℕ). Within x c) (sym (passes-next k ss m)) (passes_least k ss (pass ss m) c (pass_least ss m c f t) t)

pub close_closed : (ss : List ℕ) (m : ℕ) → Closed ss (close_of ss m)
unfolding close_of
close_closed ss m = passes-closed (length ss) ss m (left_le ss m)

pub close_within : (ss : List ℕ) (m : ℕ) → Within m (close_of ss m)
unfolding close_of
close_within ss m = passes-within (length ss) ss m

pub close_least : (ss : List ℕ) (m c : ℕ) → Within m c → Closed ss c → Within (close_of ss m) c
unfolding close_of
close_least ss m c f t = passes_least (length ss) ss m c f t

-- ---- the closed sets are closed under `|`, `&` and `& !`

closed₂ : (a b c : ℕ) → ((s : ℕ) → Takes s a → Takes s b → Takes s c) → (ss : List ℕ) → Closed ss a → Closed ss b → Closed ss c
closed₂ a b c f [] ta tb = tt
closed₂ a b c f (s ∷ ss) ta tb = (f s ta.0 tb.0, closed₂ a b c f ss ta.1 tb.1)

pub closed-union : (ss : List ℕ) (a b : ℕ) → Closed ss a → Closed ss b → Closed ss (union a b)
closed-union ss a b =
    closed₂ a b (union a b)
    (λ s ta tb p x y. ⊎_elim (λ h. thru (ta p x h) (in_union_l a b)) (λ h. thru (tb p x h) (in_union_r a b)) (of_union a b p y)) ss

pub closed-meet : (ss : List ℕ) (a b : ℕ) → Closed ss a → Closed ss b → Closed ss (meet a b)
closed-meet ss a b =
    closed₂ a b (meet a b)
    (λ s ta tb p x y. record { at = λ q h. in_meet a b q ((ta p x (of_meet a b p y).0).at q h) ((tb p x (of_meet a b p y).1).at q h) }) ss

-- not in b: neither is anyone of the group
out : (s b : ℕ) → Takes s b → (p : ℕ) → has s p ≡ true → has b p ≡ false → (q : ℕ) → has s q ≡ true → has b q ≡ false
out s b tb p x n q h = pick (has b q) refl
  where
    pick : (v : Bool) → has b q ≡ v → has b q ≡ false
    pick true e = absurd (true≢false (sym ((tb q h e).at p x) ∙ n))
    pick false e = e

pub closed-minus : (ss : List ℕ) (a b : ℕ) → Closed ss a → Closed ss b → Closed ss (minus a b)
closed-minus ss a b =
    closed₂ a b (minus a b)
    (λ s ta tb p x y. record { at = λ q h. in_minus a b q ((ta p x (of_minus a b p y).0).at q h) (out s b tb p x (of_minus a b p y).1 q h) }) ss

-- ---- the laws

pub close_same : (ss : List ℕ) (m : ℕ) → Closed ss m → close_of ss m ≡ m
close_same ss m t = antisym (close_of ss m) m (close_least ss m m (within-refl m) t) (close_within ss m)

pub close_idem : (ss : List ℕ) (m : ℕ) → close_of ss (close_of ss m) ≡ close_of ss m
close_idem ss m = close_same ss (close_of ss m) (close_closed ss m)

pub close_mono : (ss : List ℕ) (a b : ℕ) → Within a b → Within (close_of ss a) (close_of ss b)
close_mono ss a b f = close_least ss a (close_of ss b) (thru f (close_within ss b)) (close_closed ss b)

-- what lies between a set and its closure has that closure
pub close_between : (ss : List ℕ) (m n : ℕ) → Within m n → Within n (close_of ss m) → close_of ss n ≡ close_of ss m
close_between ss m n f g =
    antisym (close_of ss n) (close_of ss m) (close_least ss n (close_of ss m) g (close_closed ss m)) (close_mono ss m n f)

pub close_pass : (ss : List ℕ) (m : ℕ) → close_of ss (pass ss m) ≡ close_of ss m
close_pass ss m = close_between ss m (pass ss m) (pass-within ss m) (pass_least ss m (close_of ss m) (close_within ss m) (close_closed ss m))

union_least : (a b c : ℕ) → Within a c → Within b c → Within (union a b) c
union_least a b c f g = record { at = λ p h. ⊎_elim (f.at p) (g.at p) (of_union a b p h) }

pub close_union : (ss : List ℕ) (a b : ℕ) → close_of ss (union a b) ≡ union (close_of ss a) (close_of ss b)
close_union ss a b =
    antisym (close_of ss (union a b)) (union (close_of ss a) (close_of ss b))
    (close_least ss (union a b) (union (close_of ss a) (close_of ss b))
    (union_least a b (union (close_of ss a) (close_of ss b))
    (thru (close_within ss a) (in_union_l (close_of ss a) (close_of ss b)))
    (thru (close_within ss b) (in_union_r (close_of ss a) (close_of ss b))))
    (closed-union ss (close_of ss a) (close_of ss b) (close_closed ss a) (close_closed ss b)))
    (union_least (close_of ss a) (close_of ss b) (close_of ss (union a b))
    (close_mono ss a (union a b) (in_union_l a b)) (close_mono ss b (union a b) (in_union_r a b)))

meet_l : (a b : ℕ) → Within (meet a b) a
meet_l a b = record { at = λ p h. (of_meet a b p h).0 }

meet_r : (a b : ℕ) → Within (meet a b) b
meet_r a b = record { at = λ p h. (of_meet a b p h).1 }

-- RESTRICTION to a set c of which each group is inside or apart, which is to say that c is closed
pub close_restrict : (ss : List ℕ) (m c : ℕ) → Closed ss c → meet (close_of ss m) c ≡ close_of ss (meet m c)
close_restrict ss m c t =
    antisym (meet (close_of ss m) c) (close_of ss (meet m c)) (record { at = λ p h. inside p (of_meet (close_of ss m) c p h) })
    (record { at = λ p h. in_meet (close_of ss m) c p ((close_mono ss (meet m c) m (meet_l m c)).at p h) ((close_least ss (meet m c) c (meet_r m c) t).at p h) })
  where
    rest : ℕ
    rest = minus (close_of ss m) c

    here : ℕ
    here = close_of ss (meet m c)

    start : (p : ℕ) (b : Bool) → has c p ≡ b → has m p ≡ true → has (union here rest) p ≡ true
    start p true e h = (in_union_l here rest).at p ((close_within ss (meet m c)).at p (in_meet m c p h e))
    start p false e h = (in_union_r here rest).at p (in_minus (close_of ss m) c p ((close_within ss m).at p h) e)

    all : Within (close_of ss m) (union here rest)
    all =
        close_least ss m (union here rest) (record { at = λ p h. start p (has c p) refl h })
        (closed-union ss here rest (close_closed ss (meet m c)) (closed-minus ss (close_of ss m) c (close_closed ss m) t))

    inside : (p : ℕ) → (has (close_of ss m) p ≡ true) × (has c p ≡ true) → has here p ≡ true
    inside p h = ⊎_elim (λ x. x) (λ x. absurd (true≢false (sym h.1 ∙ (of_minus (close_of ss m) c p x).1))) (of_union here rest p (all.at p h.0))

-- ---- LOCALITY: within c only the groups' parts in c count

unfoldable pub cut : ℕ → List ℕ → List ℕ
cut c = map (λ s. meet s c)

cut-closed : (c n : ℕ) (ss : List ℕ) → Closed ss n → Closed (cut c ss) n
unfolding cut
cut-closed c n [] t = tt
cut-closed c n (s ∷ ss) t = (λ p x y. thru (meet_l s c) (t.0 p (of_meet s c p x).0 y), cut-closed c n ss t.1)

cut_in : (c : ℕ) (ss : List ℕ) → Closed (cut c ss) c
unfolding cut
cut_in c [] = tt
cut_in c (s ∷ ss) = (λ p x y. meet_r s c, cut_in c ss)

uncut : (c n : ℕ) (ss : List ℕ) → Closed ss c → Within n c → Closed (cut c ss) n → Closed ss n
unfolding cut
uncut c n [] t f u = tt
uncut c n (s ∷ ss) t f u = (
  λ p x y. record { at = λ q h. (u.0 p (in_meet s c p x (f.at p y)) y).at q (in_meet s c q h ((t.0 p x (f.at p y)).at q h)) },
  uncut c n ss t.1 f u.1,
)

pub close_cut : (ss : List ℕ) (m c : ℕ) → Closed ss c → Within m c → close_of ss m ≡ close_of (cut c ss) m
close_cut ss m c t f =
    antisym (close_of ss m) (close_of (cut c ss) m)
    (close_least ss m (close_of (cut c ss) m) (close_within (cut c ss) m)
    (uncut c (close_of (cut c ss) m) ss t (close_least (cut c ss) m c f (cut_in c ss)) (close_closed (cut c ss) m)))
    (close_least (cut c ss) m (close_of ss m) (close_within ss m) (cut-closed c (close_of ss m) ss (close_closed ss m)))

-- two worlds that agree within c, of which each group is inside c or apart from it, have closures that agree within c
pub close_local : (ss ss' : List ℕ) (m m' c : ℕ) → Closed ss c → Closed ss' c → cut c ss ≡ cut c ss' → meet m c ≡ meet m' c
    → meet (close_of ss m) c ≡ meet (close_of ss' m') c
close_local ss ss' m m' c t t' e k =
    close_restrict ss m c t ∙ close_cut ss (meet m c) c t (meet_r m c)
    ∙ ap (λ (l : List ℕ). close_of l (meet m c)) e ∙ ap (close_of (cut c ss')) k
    ∙ sym (close_restrict ss' m' c t' ∙ close_cut ss' (meet m' c) c t' (meet_r m' c))

-- ---- one person's closure: who is in mine has me in theirs

pub in_one : (p : ℕ) → has (one p) p ≡ true
in_one p = has_one p p ∙ eq-eqb p p refl

pub one-within : (p m : ℕ) → has m p ≡ true → Within (one p) m
one-within p m h = record { at = λ q e. ap (has m) (sym (eqb-true p q (sym (has_one p q) ∙ e))) ∙ h }

pub close_sym : (ss : List ℕ) (p q : ℕ) → has (close_of ss (one p)) q ≡ true → has (close_of ss (one q)) p ≡ true
close_sym ss p q h = pick (has (close_of ss (one q)) p) refl
  where
    pick : (b : Bool) → has (close_of ss (one q)) p ≡ b → has (close_of ss (one q)) p ≡ true
    pick true e = e
    pick false e =
        let mine = close_of ss (one p) in
        let yours = close_of ss (one q) in
        let w = close_least ss (one p) (minus mine yours)
        (one-within p (minus mine yours) (in_minus mine yours p ((close_within ss (one p)).at p (in_one p)) e))
        (closed-minus ss mine yours (close_closed ss (one p)) (close_closed ss (one q))) in
        absurd (true≢false (sym ((close_within ss (one q)).at q (in_one q)) ∙ (of_minus mine yours q (w.at q h)).1))

-- ---- what the code's tests and steps are

pub absorb-zero : (s m : ℕ) → bit_and s m ≡ 0 → absorb s m ≡ m
unfolding disjoint meet
absorb-zero s m e = absorb_apart s m (eq-eqb (bit_and s m) 0 e)

pub absorb_or : (s m : ℕ) → (bit_and s m ≡ 0 → ⊥) → absorb s m ≡ bit_or m s
unfolding disjoint meet union
absorb_or s m n = absorb-meets s m (ne_eqb (bit_and s m) 0 n)

-- one group more, at the code's i + 1
pub pass_step : (ss : List ℕ) (i m : ℕ) → i < length ss → pass (drop i ss) m ≡ pass (drop (i + 1) ss) (absorb (get_or ss i 0) m)
unfolding pass
pass_step ss i m h = ap (λ (l : List ℕ). pass l m) (drop-cons ss i 0 h) ∙ ap (λ (k : ℕ). pass (drop k ss) (absorb (get_or ss i 0) m)) (sym (add-one i))

pub pass_end : (ss : List ℕ) (i m : ℕ) → length ss ≤ i → pass (drop i ss) m ≡ m
unfolding pass
pass_end ss i m h = ap (λ (l : List ℕ). pass l m) (lib.ListN.drop_of_length-le ss h)
