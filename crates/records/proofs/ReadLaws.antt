-- What reading gives: what each record keeps holds of the whole, the last one was judged, and no fault was found.
use mathlib.Core.Path.{◌≡◌, refl, sym, subst}
use mathlib.Core.Bool.{Bool, true, false, cond}
use mathlib.Core.List.{List, [], ◌∷◌, ◌++◌}
use mathlib.Core.Logic.{◌⊎◌, inl, inr}
use Prim.Native.Nat.{ℕ, zero, suc, ◌+◌, ◌-◌, ◌≤◌, zero-le}
use native.Mathlib.Nat.{suc-ne-zero}
use lib.ListN.{length, get_or}
use lib.Dec.{eqb, ltb, leb}
use borrow.Author.Tests.{eqb-true, eqb-false}
use Rattle.sets.specs.paper.Sets.{All}
use Rattle.records.specs.paper.Fields.{Read, got, bad, Format, Raw, format_of, record_at, Verdict, fine, refused, on_fine, read_from, first_fault, fault}
use Rattle.records.specs.paper.Plan.{joined, faults}
use Rattle.sets.proofs.LoopLaws.{all_append}
use Rattle.sets.proofs.Every.{all_both, all_then, all_of_map}
use Rattle.records.proofs.FieldLaws.{Gave, InFormat, Fitting, record_in}

-- ---- what holds of the answer, if there is one

abbrev pub OnFine : {A : Type 0} → (A → Type 0) → Verdict A → Type 0
OnFine Q (fine a) = Q a
OnFine Q (refused n k) = Unit {0}

pub fine_then : {A B : Type 0} (Q : A → Type 0) (R : B → Type 0) (v : Verdict A) (f : A → Verdict B) → OnFine Q v → ((a : A) → Q a → OnFine R (f a)) → OnFine R (on_fine v f)
fine_then Q R (fine a) f h k = k a h
fine_then Q R (refused n m) f h k = tt

pub of_fine : {A : Type 0} (Q : A → Type 0) (v : Verdict A) (a : A) → OnFine Q v → v ≡ fine a → Q a
of_fine Q v a h e = subst (OnFine Q) e h

pub to_fine : {A : Type 0} (Q : A → Type 0) (v : Verdict A) → ((a : A) → v ≡ fine a → Q a) → OnFine Q v
to_fine Q (fine a) h = h a refl
to_fine Q (refused n k) h = tt

-- no fault in the list, where the answer behind it comes out
pub past-faults : {A : Type 0} (Q : A → Type 0) (k : ℕ) (ns : List ℕ) (v : Verdict A) → (All (λ n. n ≡ 0) ns → OnFine Q v) → OnFine Q (first_fault k ns v)
unfolding first_fault
past-faults Q k [] v h = h tt
past-faults Q k (zero ∷ ns) v h = past-faults Q (k + 1) ns v (λ z. h (refl, z))
past-faults Q k (suc n ∷ ns) v h = tt

pub not_faulty : (n : ℕ) (b : Bool) → fault (suc n) b ≡ 0 → b ≡ true
not_faulty n true e = refl
not_faulty n false e = absurd (suc-ne-zero n e)

pub faultless : {A : Type 0} (n : ℕ) (ok : A → Bool) (xs : List A) → All (λ k. k ≡ 0) (faults (suc n) ok xs) → All (λ x. ok x ≡ true) xs
faultless n ok xs h =
    all_then (λ x. fault (suc n) (ok x) ≡ 0) (λ x. ok x ≡ true) (λ x e. not_faulty n (ok x) e) xs (all_of_map (λ x. fault (suc n) (ok x)) (λ k. k ≡ 0) xs h)

-- ---- what every step keeps, and what the last one judged

module _ {A : Type 0} (formats : List Format) (add : Raw → A → A) (judge : Raw → A → ℕ) (Inv : A → Type 0)
    (step : (r : Raw) (a : A) → InFormat formats r → judge r (add r a) ≡ 0 → Inv a → Inv (add r a)) where
  abbrev pub Judged : A → Type 0
  Judged a = (r : Raw) × (judge r a ≡ 0)

  abbrev pub Kept : A → Type 0
  Kept a = Inv a × Judged a

  pub read_keeps : (n : ℕ) (s : List ℕ) (at kind : ℕ) (a : A) (k : ℕ) → Inv a → (k ≡ 0) ⊎ Judged a → OnFine Kept (read_from formats add judge n s at kind a k)
  unfolding read_from
  read_keeps zero s at kind a k i j = tt
  read_keeps (suc n) s at kind a k i j =
      whole (λ r p h z. read_keeps n s p r.kind (add r a) (k + 1) (step r a h z i) (inr (r, z))) (leb (length s) at)
    where
      judged : Raw → ℕ → ℕ → Verdict A
      judged r p z = elim z [ zero ↦ read_from formats add judge n s p r.kind (add r a) (k + 1) | suc m ↦ refused (suc m) k ]

      after : Read Raw → Verdict A
      after m = elim m [ bad ↦ refused 1 k | got r p ↦ elim (ltb r.kind kind) [ true ↦ refused 1 k | false ↦ judged r p (judge r (add r a)) ] ]

      Later : Type 0
      Later = (r : Raw) (p : ℕ) → InFormat formats r → judge r (add r a) ≡ 0 → OnFine Kept (read_from formats add judge n s p r.kind (add r a) (k + 1))

      ended : (b : Bool) → eqb k 0 ≡ b → (k ≡ 0) ⊎ Judged a → OnFine Kept (cond b (refused 3 0) (fine a))
      ended true e j = tt
      ended false e (inl z) = absurd (eqb-false k 0 e z)
      ended false e (inr j) = (i, j)

      joins : Later → (r : Raw) (p : ℕ) → InFormat formats r → (z : ℕ) → judge r (add r a) ≡ z → OnFine Kept (judged r p z)
      joins ih r p h zero e = ih r p h e
      joins ih r p h (suc m) e = tt

      rising : Later → (r : Raw) (p : ℕ) → InFormat formats r → (b : Bool) → OnFine Kept (elim b [ true ↦ refused 1 k | false ↦ judged r p (judge r (add r a)) ])
      rising ih r p h true = tt
      rising ih r p h false = joins ih r p h (judge r (add r a)) refl

      next : Later → (m : Read Raw) → Gave (InFormat formats) m → OnFine Kept (after m)
      next ih bad h = tt
      next ih (got r p) h = rising ih r p h (ltb r.kind kind)

      whole : Later → (b : Bool) → OnFine Kept (cond b (cond (eqb k 0) (refused 3 0) (fine a)) (after (record_at formats s at)))
      whole ih true = ended (eqb k 0) refl j
      whole ih false = next ih (record_at formats s at) (record_in formats s at)

-- ---- the records of one kind: so many at most, each made from one that was read

module _ (formats : List Format) {A : Type 0} (kind : ℕ) (make : Raw → A) where
  abbrev pub Made : A → Type 0
  Made x = (r : Raw) × Fitting formats kind r × (make r ≡ x)

  abbrev pub OfKind : List A → Type 0
  OfKind xs = (length xs ≤ (format_of formats kind).limit) × All Made xs

  pub kind-none : OfKind []
  kind-none = (zero-le, tt)

  pub kind-joined : (r : Raw) (xs : List A) (counts : List ℕ) → Fitting formats r.kind r → get_or counts (r.kind - 1) 0 ≤ (format_of formats r.kind).limit
      → get_or counts (kind - 1) 0 ≡ length (joined kind make r xs) → OfKind xs → OfKind (joined kind make r xs)
  kind-joined r xs counts f l c h = pick (eqb r.kind kind) refl c
    where
      own : r.kind ≡ kind → get_or counts (kind - 1) 0 ≤ (format_of formats kind).limit
      own e = subst (λ (k : ℕ). get_or counts (k - 1) 0 ≤ (format_of formats k).limit) e l

      pick : (b : Bool) → eqb r.kind kind ≡ b → get_or counts (kind - 1) 0 ≡ length (cond b (xs ++ (make r ∷ [])) xs) → OfKind (cond b (xs ++ (make r ∷ [])) xs)
      pick true e c =
          let k = eqb-true r.kind kind e in (
            subst (λ (n : ℕ). n ≤ (format_of formats kind).limit) c (own k),
            all_append Made xs (make r ∷ []) h.1 ((r, subst (λ (k : ℕ). Fitting formats k r) k f, refl), tt),
          )
      pick false e c = h

  -- each of them is as it should, if its record and what was tested show it
  pub each-sound : (R S : A → Type 0) → ((r : Raw) → Fitting formats kind r → R (make r) → S (make r)) → (xs : List A) → OfKind xs → All R xs → All S xs
  each-sound R S f xs h t = all_both Made R S (λ x m k. subst S m.2 (f m.0 m.1 (subst R (sym m.2) k))) xs h.1 t
