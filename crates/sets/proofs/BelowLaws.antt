-- What a loop below a number found, and what it keeps.
use mathlib.Core.Path.{◌≡◌, refl, sym, ap, ◌∙◌}
use mathlib.Core.Bool.{Bool, true, false, ◌||◌, true≢false, false≢true}
use mathlib.Core.List.{map}
use mathlib.Core.Logic.{◌⊎◌, inl, inr, ⊎_elim}
use Prim.Native.Nat.{ℕ, zero, suc, ◌≤◌, ◌<◌}
use native.Mathlib.Omega.{arith}
use lib.ListN.{get_or}
use Rattle.sets.specs.paper.Sets.{has, union, only, numbers, below, any_below, union_below, fold_below}
use Rattle.sets.proofs.SetLaws.{Within, has-none, in_union_l, in_union_r, of_union, lt_or_le}
use Rattle.sets.proofs.LoopLaws.{get_or-below, get_d_past}
use Rattle.sets.proofs.Closing.{Takes, Closed}

-- a number below suc n is below n, or n itself
below_suc : (n i : ℕ) → i < suc n → (i < n) ⊎ (i ≡ n)
below_suc n i l = ⊎_elim (λ h. inl h) (λ h. inr (omega arith)) (lt_or_le i n)

pub any_false : (n : ℕ) (f : ℕ → Bool) → any_below n f ≡ false → (i : ℕ) → i < n → f i ≡ false
unfolding any_below
any_false zero f e i l = absurd (omega arith)
any_false (suc n) f e i l =
    let t = neither (any_below n f) (f n) e in
    ⊎_elim (λ h. any_false n f t.0 i h) (λ h. ap f h ∙ t.1) (below_suc n i l)
  where
    neither : (x y : Bool) → (x || y) ≡ false → (x ≡ false) × (y ≡ false)
    neither true y e = absurd (true≢false e)
    neither false y e = (refl, e)

pub union_find : (n : ℕ) (f : ℕ → ℕ) (q : ℕ) → has (union_below n f) q ≡ true → (i : ℕ) × (i < n) × (has (f i) q ≡ true)
unfolding union_below
union_find zero f q e = absurd (false≢true (sym (has-none q) ∙ e))
union_find (suc n) f q e = pick (of_union (union_below n f) (f n) q e) (λ h. union_find n f q h)
  where
    pick : (has (union_below n f) q ≡ true) ⊎ (has (f n) q ≡ true) → (has (union_below n f) q ≡ true → (i : ℕ) × (i < n) × (has (f i) q ≡ true))
        → (i : ℕ) × (i < suc n) × (has (f i) q ≡ true)
    pick (inl h) ih =
        let r = ih h in
        let l = r.1 in
        (r.0, omega arith, r.2)
    pick (inr h) ih = (n, omega arith, h)

pub in_below : (n : ℕ) (f : ℕ → ℕ) (i : ℕ) → i < n → Within (f i) (union_below n f)
unfolding union_below
in_below zero f i l = absurd (omega arith)
in_below (suc n) f i l = record { at = λ q h. pick q h (below_suc n i l) (λ k. in_below n f i k) }
  where
    pick : (q : ℕ) → has (f i) q ≡ true → (i < n) ⊎ (i ≡ n) → (i < n → Within (f i) (union_below n f)) → has (union (union_below n f) (f n)) q ≡ true
    pick q h (inl k) ih = (in_union_l (union_below n f) (f n)).at q ((ih k).at q h)
    pick q h (inr k) ih = (in_union_r (union_below n f) (f n)).at q (ap (λ (j : ℕ). has (f j) q) (sym k) ∙ h)

pub of_only : (b : Bool) (s q : ℕ) → has (only b s) q ≡ true → (b ≡ true) × (has s q ≡ true)
of_only true s q e = (refl, e)
of_only false s q e = absurd (false≢true (sym (has-none q) ∙ e))

pub in_only : (b : Bool) (s : ℕ) → b ≡ true → Within s (only b s)
in_only true s e = record { at = λ q h. h }
in_only false s e = absurd (false≢true e)

-- a flag that is set is one of those below n
pub flag-set : (n : ℕ) (f : ℕ → Bool) (i : ℕ) → get_or (below n f) i false ≡ true → (i < n) × (f i ≡ true)
flag-set n f i e =
    ⊎_elim (λ h. (h, sym (get_or-below n f false i h) ∙ e)) (λ h. absurd (false≢true (sym (get_d_past n f false i h) ∙ e))) (lt_or_le i n)

-- numbers that are 0 past n
pub get_or-below_all : (n : ℕ) (f : ℕ → ℕ) → ((i : ℕ) → n ≤ i → f i ≡ 0) → (i : ℕ) → get_or (below n f) i 0 ≡ f i
get_or-below_all n f z i = ⊎_elim (λ h. get_or-below n f 0 i h) (λ h. get_d_past n f 0 i h ∙ sym (z i h)) (lt_or_le i n)

pub fold_keeps : {A : Type 0} (Q : A → Type 0) (f : ℕ → A → A) → ((i : ℕ) (a : A) → Q a → Q (f i a)) → (n : ℕ) (a : A) → Q a → Q (fold_below n f a)
unfolding fold_below
fold_keeps Q f s zero a h = h
fold_keeps Q f s (suc n) a h = s n (fold_below n f a) (fold_keeps Q f s n a h)

pub closed-below : (n : ℕ) (f : ℕ → ℕ) (m : ℕ) → ((i : ℕ) → Takes (f i) m) → Closed (below n f) m
unfolding below numbers
closed-below n f m h = from n 0
  where
    from : (n k : ℕ) → Closed (map f (numbers n k)) m
    from zero k = tt
    from (suc n) k = (h k, from n (suc k))
