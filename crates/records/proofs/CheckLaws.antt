-- Laws of checks that follow each other: the first refusal stands.
use mathlib.Core.Path.{◌≡◌, refl, sym, ap, ◌∙◌}
use mathlib.Core.List.{List, [], ◌∷◌}
use Prim.Native.Nat.{ℕ, zero, suc, ◌+◌}
use native.Mathlib.Omega.{arith}
use Rattle.records.specs.paper.Fields.{Verdict, fine, refused, first_fault}
use Rattle.records.specs.paper.Plan.{Plan, plan_faults, naming_faults, nodes_at, cuts_at}
use Rattle.records.specs.code.Check.{checked_of}
use Rattle.records.specs.code.Crossings.{crossing_faults}
use Rattle.records.specs.code.Elections.{agreement}
use Rattle.records.specs.declared.checked.Checked.{Checked}
use Rattle.records.specs.declared.checked.Checked.TheVariants.{Accepted, Refused}

abbrev pub or_else : Checked → Checked → Checked
or_else Accepted next = next
or_else (Refused n k) next = Refused n k

pub fault_then : {A : Type 0} (k : ℕ) (fs : List ℕ) (a : A) (v : Verdict A) → or_else (checked_of (first_fault k fs (fine a))) (checked_of v) ≡ checked_of (first_fault k fs v)
unfolding checked_of first_fault
fault_then k [] a v = refl
fault_then k (zero ∷ fs) a v = fault_then (k + 1) fs a v
fault_then k (suc n ∷ fs) a v = refl

pub refused-stands : (r next : Checked) {n k : ℕ} → r ≡ Refused n k → r ≡ or_else r next
refused-stands r next e = rw e

pub accepted_passes : (r next : Checked) → r ≡ Accepted → next ≡ or_else r next
accepted_passes r next e = rw e

-- ---- back from the answer to the verdict

pub refused_is : {A : Type 0} (v : Verdict A) {n k : ℕ} → Refused n k ≡ checked_of v → v ≡ refused n k
unfolding checked_of
refused_is (fine a) e = let z : ◌≡◌ {A = ℕ} 0 1 = cc in absurd (omega arith)
refused_is (refused m j) e = cc

accepted_is : {A : Type 0} (k : ℕ) (fs : List ℕ) (v : Verdict A) → Accepted ≡ checked_of (first_fault k fs v) → first_fault k fs v ≡ v
unfolding checked_of first_fault
accepted_is k [] v e = refl
accepted_is k (zero ∷ fs) v e = accepted_is (k + 1) fs v e
accepted_is k (suc n ∷ fs) v e = let z : ◌≡◌ {A = ℕ} 0 1 = cc in absurd (omega arith)

pub faults_accepted : (P : Plan) → Accepted ≡ checked_of (plan_faults P) → plan_faults P ≡ fine P
unfolding plan_faults
faults_accepted P e =
    let a = accepted_is (nodes_at P) (naming_faults P) _ e in
    let b = accepted_is (cuts_at P) (crossing_faults P) _ (e ∙ ap checked_of a) in
    a ∙ b ∙ accepted_is (cuts_at P) (agreement P) (fine P) (e ∙ ap checked_of (a ∙ b))

-- no refusal has the number 0
no_zero : {A : Type 0} (k : ℕ) (fs : List ℕ) (v : Verdict A) {j : ℕ} → Refused 0 j ≡ checked_of (first_fault k fs v) → Refused 0 j ≡ checked_of v
unfolding checked_of first_fault
no_zero k [] v e = e
no_zero k (zero ∷ fs) v e = no_zero (k + 1) fs v e
no_zero k (suc n ∷ fs) v e = let z : 0 ≡ suc n = cc in absurd (omega arith)

pub faults-number : (P : Plan) {n j : ℕ} → Refused n j ≡ checked_of (plan_faults P) → n ≡ 0 → ⊥
unfolding plan_faults checked_of
faults-number P {n} {j} e h =
    let f = no_zero (cuts_at P) (agreement P) (fine P) (no_zero (cuts_at P) (crossing_faults P) _ (no_zero (nodes_at P) (naming_faults P) _ (ap (λ (m : ℕ). Refused m j) (sym h) ∙ e))) in
    let z : ◌≡◌ {A = ℕ} 0 1 = cc in omega arith
