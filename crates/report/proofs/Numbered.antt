-- No refusal of a plan or of a case has the number 0.
use mathlib.Core.Path.{◌≡◌}
use mathlib.Core.Bool.{Bool, true, false, cond}
use mathlib.Core.List.{List, [], ◌∷◌}
use Prim.Native.Nat.{ℕ, zero, suc, ◌+◌}
use native.Mathlib.Nat.{suc-ne-zero}
use lib.ListN.{length}
use lib.Dec.{eqb, ltb, leb}
use Rattle.records.specs.paper.Fields.{Read, got, bad, Format, Raw, record_at, Verdict, fine, refused, on_fine, read_from, first_fault}
use Rattle.records.specs.paper.Plan.{Plan, plan_records, plan_faults, checked_plan}
use Rattle.records.specs.paper.Case.{Case, case_records, read_case}
use Rattle.expressions.specs.paper.Bindings.{bindable}

abbrev pub Numbered : {A : Type 0} → Verdict A → Type 0
Numbered (fine a) = Unit {0}
Numbered (refused n k) = n ≡ 0 → ⊥

fine_numbered : {A B : Type 0} (v : Verdict A) (f : A → Verdict B) → Numbered v → ((a : A) → Numbered (f a)) → Numbered (on_fine v f)
fine_numbered (fine a) f h k = k a
fine_numbered (refused n j) f h k = h

fault_numbered : {A : Type 0} (k : ℕ) (ns : List ℕ) (v : Verdict A) → Numbered v → Numbered (first_fault k ns v)
unfolding first_fault
fault_numbered k [] v h = h
fault_numbered k (zero ∷ ns) v h = fault_numbered (k + 1) ns v h
fault_numbered k (suc n ∷ ns) v h = suc-ne-zero n

module _ {A : Type 0} (formats : List Format) (add : Raw → A → A) (judge : Raw → A → ℕ) where
  read_numbered : (n : ℕ) (s : List ℕ) (at kind : ℕ) (a : A) (k : ℕ) → Numbered (read_from formats add judge n s at kind a k)
  unfolding read_from
  read_numbered zero s at kind a k = suc-ne-zero 0
  read_numbered (suc n) s at kind a k = whole (λ r p. read_numbered n s p r.kind (add r a) (k + 1)) (leb (length s) at) (eqb k 0)
    where
      judged : Raw → ℕ → ℕ → Verdict A
      judged r p z = elim z [ zero ↦ read_from formats add judge n s p r.kind (add r a) (k + 1) | suc m ↦ refused (suc m) k ]

      after : Read Raw → Verdict A
      after m = elim m [ bad ↦ refused 1 k | got r p ↦ elim (ltb r.kind kind) [ true ↦ refused 1 k | false ↦ judged r p (judge r (add r a)) ] ]

      Later : Type 0
      Later = (r : Raw) (p : ℕ) → Numbered (read_from formats add judge n s p r.kind (add r a) (k + 1))

      joins : Later → (r : Raw) (p z : ℕ) → Numbered (judged r p z)
      joins ih r p zero = ih r p
      joins ih r p (suc m) = suc-ne-zero m

      rising : Later → (r : Raw) (p : ℕ) (b : Bool) → Numbered {A = A} (elim b [ true ↦ refused 1 k | false ↦ judged r p (judge r (add r a)) ])
      rising ih r p true = suc-ne-zero 0
      rising ih r p false = joins ih r p (judge r (add r a))

      next : Later → (m : Read Raw) → Numbered (after m)
      next ih bad = suc-ne-zero 0
      next ih (got r p) = rising ih r p (ltb r.kind kind)

      whole : Later → (b c : Bool) → Numbered (cond b (cond c (refused 3 0) (fine a)) (after (record_at formats s at)))
      whole ih true true = suc-ne-zero 2
      whole ih true false = tt
      whole ih false c = next ih (record_at formats s at)

-- ---- of a plan, of a case over it, and of what a case binds

pub plan_numbered : (s : List ℕ) → Numbered (checked_plan s)
unfolding checked_plan plan_records plan_faults
plan_numbered s =
    fine_numbered (plan_records s) plan_faults (read_numbered _ _ _ (length s + 1) s 0 0 _ 0)
    (λ P. fault_numbered _ _ _ (fault_numbered _ _ _ (fault_numbered _ _ (fine P) tt)))

pub case_numbered : (P : Plan) (s : List ℕ) → Numbered (read_case P s)
unfolding read_case case_records
case_numbered P s = fine_numbered (case_records s) _ (read_numbered _ _ _ (length s + 1) s 0 0 _ 0) (λ C. fault_numbered _ _ (fine C) tt)

pub bindable_numbered : (C : Case) → Numbered (bindable C)
unfolding bindable
bindable_numbered C = fault_numbered _ _ _ (fault_numbered _ _ (fine C) tt)
