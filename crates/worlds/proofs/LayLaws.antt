-- One entry laid into the tables of a case, and what a loop that lays entry after entry has laid.
use mathlib.Core.Path.{◌≡◌, refl, sym, ap, ap₂, ◌∙◌, subst}
use mathlib.Core.Bool.{Bool, true, false, ◌&&◌, ◌||◌, cond, and-false, or-false, or-true, true≢false}
use mathlib.Core.List.{List, []}
use mathlib.Core.Logic.{⊎_elim}
use Prim.Native.Nat.{ℕ, ◌+◌, ◌≤◌, ◌<◌}
use native.Mathlib.Omega.{arith}
use lib.ListN.{length, get_or, set}
use lib.Seq.{get_or-set_same, get_or-set_other}
use lib.Dec.{eqb, ltb}
use borrow.Author.Count.{below_more}
use borrow.Author.Tests.{eqb-true, eqb-false, eq-eqb, ne_eqb, lt-ltb, le-ltb}
use Rattle.sets.specs.paper.Sets.{has, one, union, any_of, below, All}
use Rattle.sets.proofs.SetLaws.{has_one, has-union, lt_or_le}
use Rattle.sets.proofs.LoopLaws.{get_or-below, length-below, all_at}
use Rattle.worlds.specs.code.Tables.{row}
use Rattle.worlds.specs.code.Laid.{Laid, Row, Same}

-- ---- one entry

pub laid_at : (t : List (List ℕ)) (k i v : ℕ) → k < length t → i < length (get_or t k []) → Laid k i v t (set t k (set (get_or t k []) i v))
laid_at t k i v h l = record { at = λ j n. other j n (eqb k j) refl }
  where
    here : List ℕ
    here = set (get_or t k []) i v

    same : (j n : ℕ) → k ≡ j → (b : Bool) → eqb i n ≡ b → get_or here n 0 ≡ cond b v (row t j n)
    same j n q true e = subst (λ (m : ℕ). get_or here m 0 ≡ v) (eqb-true i n e) (get_or-set_same (get_or t k []) i v 0 l)
    same j n q false e = get_or-set_other (get_or t k []) i n v 0 (λ z. eqb-false i n e (sym z)) ∙ ap (λ (m : ℕ). row t m n) q

    other : (j n : ℕ) (b : Bool) → eqb k j ≡ b → row (set t k here) j n ≡ cond (eqb k j && eqb i n) v (row t j n)
    other j n true e =
        ap (λ (r : List ℕ). get_or r n 0) (subst (λ (m : ℕ). get_or (set t k here) m [] ≡ here) (eqb-true k j e) (get_or-set_same t k here [] h))
        ∙ same j n (eqb-true k j e) (eqb i n) refl
        ∙ sym (ap (λ (b : Bool). cond (b && eqb i n) v (row t j n)) e)
    other j n false e =
        ap (λ (r : List ℕ). get_or r n 0) (get_or-set_other t k j here [] (λ z. eqb-false k j e (sym z)))
        ∙ sym (ap (λ (b : Bool). cond (b && eqb i n) v (row t j n)) e)

-- in another row nothing changes
pub laid_other : {k i v : ℕ} {t u : List (List ℕ)} (j n : ℕ) → Laid k i v t u → eqb k j ≡ false → row u j n ≡ row t j n
laid_other {k} {i} {v} {t} {u} j n a e = a.at j n ∙ ap (λ (b : Bool). cond (b && eqb i n) v (row t j n)) e

pub laid-here : {k i v : ℕ} {t u : List (List ℕ)} → Laid k i v t u → row u k i ≡ v
laid-here {k} {i} {v} {t} {u} a = a.at k i ∙ ap₂ (λ (x y : Bool). cond (x && y) v (row t k i)) (eq-eqb k k refl) (eq-eqb i i refl)

pub laid_beside : {k i v : ℕ} {t u : List (List ℕ)} (n : ℕ) → Laid k i v t u → eqb i n ≡ false → row u k n ≡ row t k n
laid_beside {k} {i} {v} {t} {u} n a e = a.at k n ∙ ap (λ (b : Bool). cond (eqb k k && b) v (row t k n)) e ∙ ap (λ (b : Bool). cond b v (row t k n)) (and-false (eqb k k))

-- ---- the entries of a row below n, each as Q wants it

pub record Filled (Q : ℕ → ℕ → Type 0) (t : List (List ℕ)) (k n : ℕ) : Type 0 where
  pub at : (j : ℕ) → j < n → Q j (row t k j)

-- an entry more of the row
pub filled_next : {Q : ℕ → ℕ → Type 0} {k i v : ℕ} {t u : List (List ℕ)} → Laid k i v t u → Q i v → Filled Q t k i → Filled Q u k (i + 1)
filled_next {Q} {k} {i} {v} {t} {u} a q e = record {
  at = below_more (λ (j : ℕ). Q j (row u k j)) i
      (λ j l. subst (Q j) (sym (laid_beside j a (ne_eqb i j (λ z. omega arith)))) (e.at j l))
      (subst (Q i) (sym (laid-here a)) q);
}

-- an entry of another row
pub filled_other : {Q : ℕ → ℕ → Type 0} {k i v m n : ℕ} {t u : List (List ℕ)} → Laid k i v t u → eqb k m ≡ false → Filled Q t m n → Filled Q u m n
filled_other {Q} {k} {i} {v} {m} {n} {t} {u} a h e = record { at = λ j l. subst (Q j) (sym (laid_other m j a h)) (e.at j l) }

-- at the end
pub filled_row : {value : ℕ → ℕ} {t : List (List ℕ)} {k m n : ℕ} → m ≡ n → Filled (λ j v. v ≡ value j) t k n → Row t k m value
filled_row e a = record { at = λ j l. a.at j (omega arith) }

-- ---- the entries of a row below n, each as Q wants it beside what stands at its number in a list

pub record Each {A : Type 0} (Q : A → ℕ → Type 0) (d : A) (xs : List A) (t : List (List ℕ)) (k n : ℕ) : Type 0 where
  pub at : (j : ℕ) → j < n → Q (get_or xs j d) (row t k j)

module _ {A : Type 0} (Q : A → ℕ → Type 0) (d : A) (xs : List A) where
  pub each_none : (t : List (List ℕ)) (k : ℕ) → Each Q d xs t k 0
  each_none t k = record { at = λ j l. absurd (omega arith) }

  -- an entry more of the row
  pub each_next : {k i v : ℕ} {t u : List (List ℕ)} → Laid k i v t u → Q (get_or xs i d) v → Each Q d xs t k i → Each Q d xs u k (i + 1)
  each_next {k} {i} {v} {t} {u} a q e =
      record {
        at = below_more (λ (j : ℕ). Q (get_or xs j d) (row u k j)) i
            (λ j l. subst (Q (get_or xs j d)) (sym (laid_beside j a (ne_eqb i j (λ z. omega arith)))) (e.at j l))
            (subst (Q (get_or xs i d)) (sym (laid-here a)) q);
      }

  -- an entry of another row
  pub each_other : {k i v m n : ℕ} {t u : List (List ℕ)} → Laid k i v t u → eqb k m ≡ false → Each Q d xs t m n → Each Q d xs u m n
  each_other {k} {i} {v} {m} {n} {t} {u} a h e = record { at = λ j l. subst (Q (get_or xs j d)) (sym (laid_other m j a h)) (e.at j l) }

-- the rows that are not named stay
pub same_start : (ks : List ℕ) (t : List (List ℕ)) → Same ks t t
same_start ks t = record { at = λ k i h. refl }

pub same_next : {k i v : ℕ} {s t u : List (List ℕ)} (ks : List ℕ) → any_of (eqb k) ks ≡ true → Laid k i v t u → Same ks s t → Same ks s u
same_next {k} {i} {v} {s} {t} {u} ks m a e = record { at = λ j n h. laid_other j n a (pick j (eqb k j) refl h) ∙ e.at j n h }
  where
    pick : (j : ℕ) (b : Bool) → eqb k j ≡ b → any_of (eqb j) ks ≡ false → eqb k j ≡ false
    pick j true q h = absurd (true≢false (sym m ∙ ap (λ (x : ℕ). any_of (eqb x) ks) (eqb-true k j q) ∙ h))
    pick j false q h = q

-- at the end: the entries of every equal list
pub each_row : {A : Type 0} (f : A → ℕ) (d : A) (xs ys : List A) (t : List (List ℕ)) (k n : ℕ) → ys ≡ xs → length xs ≤ n → Each (λ x v. v ≡ f x) d xs t k n
    → Row t k (length ys) (λ j. f (get_or ys j d))
each_row f d xs ys t k n e l a =
    record { at = subst (λ (zs : List _). (j : ℕ) → j < length zs → row t k j ≡ f (get_or zs j d)) (sym e) (λ j h. a.at j (omega arith)) }

-- ---- a test of f 0 … f (n − 1)

-- what holds of each
pub below_each : {A : Type 0} (Q : A → Type 0) (f : ℕ → A) (n i : ℕ) → i < n → All Q (below n f) → Q (f i)
below_each Q f n i h q = let l = length-below n f in subst Q (get_or-below n f (f i) i h) (all_at Q (below n f) (f i) i q (omega arith))

-- ---- a digit more in an entry of a row: of the numbers d below i those whose entry is c

later : (d i : ℕ) → (i ≡ d → ⊥) → ltb d i ≡ ltb d (i + 1)
later d i n = ⊎_elim (λ l. lt-ltb d i l ∙ sym (lt-ltb d (i + 1) (omega arith))) (λ l. le-ltb d i l ∙ sym (le-ltb d (i + 1) (omega (arith, n)))) (lt_or_le d i)

pub digit-next : (entry : ℕ → ℕ) (s t u : List (List ℕ)) (k i c v : ℕ) → Laid k c v t u → v ≡ union (row t k c) (one i) → entry i ≡ c
    → ((x d : ℕ) → has (row t k x) d ≡ (has (row s k x) d || (ltb d i && eqb (entry d) x)))
    → (x d : ℕ) → has (row u k x) d ≡ (has (row s k x) d || (ltb d (i + 1) && eqb (entry d) x))
digit-next entry s t u k i c v a e m h x d = pick (eqb c x) refl (eqb i d) refl
  where
    old : Bool
    old = has (row s k x) d

    is : Bool
    is = eqb (entry d) x

    now : c ≡ x → has (row u k x) d ≡ ((old || (ltb d i && is)) || eqb i d)
    now z =
        subst (λ (y : ℕ). has (row u k y) d ≡ (has (row t k y) d || eqb i d)) z
        (ap (λ (w : ℕ). has w d) (laid-here a ∙ e) ∙ has-union (row t k c) (one i) d ∙ ap (λ (b : Bool). has (row t k c) d || b) (has_one i d))
        ∙ ap (λ (b : Bool). b || eqb i d) (h x d)

    still : eqb c x ≡ false → has (row u k x) d ≡ (old || (ltb d i && is))
    still z = ap (λ (w : ℕ). has w d) (laid_beside x a z) ∙ h x d

    pick : (b : Bool) → eqb c x ≡ b → (o : Bool) → eqb i d ≡ o → has (row u k x) d ≡ (old || (ltb d (i + 1) && is))
    pick true p true q =
        let id = eqb-true i d q in
        now (eqb-true c x p) ∙ ap (λ (b : Bool). (old || (ltb d i && is)) || b) q ∙ or-true (old || (ltb d i && is))
        ∙ sym (ap₂ (λ (y z : Bool). old || (y && z)) (lt-ltb d (i + 1) (omega arith)) (ap (λ (j : ℕ). eqb (entry j) x) (sym id) ∙ ap (λ (y : ℕ). eqb y x) m ∙ p) ∙ or-true old)
    pick true p false q =
        now (eqb-true c x p) ∙ ap (λ (b : Bool). (old || (ltb d i && is)) || b) q ∙ or-false (old || (ltb d i && is))
        ∙ ap (λ (b : Bool). old || (b && is)) (later d i (eqb-false i d q))
    pick false p true q =
        let no : is ≡ false = ap (λ (j : ℕ). eqb (entry j) x) (sym (eqb-true i d q)) ∙ ap (λ (y : ℕ). eqb y x) m ∙ p in
        still p ∙ ap (λ (b : Bool). old || (ltb d i && b)) no ∙ ap (λ (b : Bool). old || b) (and-false (ltb d i))
        ∙ sym (ap (λ (b : Bool). old || (ltb d (i + 1) && b)) no ∙ ap (λ (b : Bool). old || b) (and-false (ltb d (i + 1))))
    pick false p false q = still p ∙ ap (λ (b : Bool). old || (b && is)) (later d i (eqb-false i d q))
