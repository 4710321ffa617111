-- Refusal 4 of a case: a search for a family, a fact of a relation, and the answer after all records.
use mathlib.Core.Path.{◌≡◌, refl, sym, ap, ap₂, ◌∙◌}
use mathlib.Core.Bool.{Bool, true, false, ◌&&◌, ◌||◌, not}
use mathlib.Core.List.{List, [], ◌∷◌}
use Prim.Native.Nat.{ℕ, zero, suc, ◌+◌, ◌≤◌, ◌<◌}
use native.Mathlib.Numerals.{add-one}
use native.Mathlib.Omega.{arith}
use lib.Dec.{eqb}
use lib.ListN.{length, get_or, drop, drop_of_length-le}
use lib.Seq.{drop-cons}
use borrow.Author.Tests.{eq-eqb, ne_eqb}
use Rattle.sets.specs.paper.Sets.{all_of, any_of}
use Rattle.records.specs.paper.Fields.{Verdict, fine, refused, on_fine, first_fault}
use Rattle.records.specs.paper.Plan as paper
use Rattle.records.specs.paper.Case as case
use Rattle.records.specs.code.Decoded.{fact_of, family_of, case_of}
use Rattle.records.specs.code.Check.{checked_of}
use Rattle.records.specs.code.CaseRead.{case_read_of}
use Rattle.records.specs.code.CaseNamed.{same_family}
use Rattle.records.specs.declared.plan.Fact.{Fact}
use Rattle.records.specs.declared.case.Family.{Family}
use Rattle.records.specs.declared.checked.Checked.{Checked}
use Rattle.records.specs.declared.checked.Checked.TheVariants.{Accepted, Refused}
use Rattle.records.specs.declared.case.reading.CaseRead.{CaseRead}
use Rattle.records.proofs.NamingLaws.{boolean_of_lem, family_of_lem}

-- ---- the three turns of a loop that looks for an entry: it is not at i, it is at i, no place is left

any_cons : {A : Type 0} (f : A → Bool) (l : List A) (i : ℕ) (d : A) → i < length l → any_of f (drop i l) ≡ (f (get_or l i d) || any_of f (drop (i + 1) l))
unfolding any_of
any_cons f l i d h = rw (drop-cons l i d h, add-one)

pub any_goes : {A : Type 0} (f : A → Bool) (l : List A) (i : ℕ) (d : A) (R : Bool) → i < length l → f (get_or l i d) ≡ false → any_of f (drop i l) ≡ R → any_of f (drop (i + 1) l) ≡ R
any_goes f l i d R h t e = (rw t at (sym (any_cons f l i d h))) ∙ e

pub any_found : {A : Type 0} (f : A → Bool) (l : List A) (i : ℕ) (d : A) (R : Bool) → i < length l → f (get_or l i d) ≡ true → any_of f (drop i l) ≡ R → true ≡ R
any_found f l i d R h t e = (rw t at (sym (any_cons f l i d h))) ∙ e

pub any_ends : {A : Type 0} (f : A → Bool) (l : List A) (i : ℕ) (R : Bool) → length l ≤ i → any_of f (drop i l) ≡ R → false ≡ R
unfolding any_of
any_ends f l i R h e = sym (ap (any_of f) (drop_of_length-le l h)) ∙ e

pub same-family : (x : Family) (n : ℕ) → x.number ≡ n → same_family n (family_of x) ≡ true
unfolding family_of all_of
same-family x n e = rw (eq-eqb x.number n e)

pub other_family : (x : Family) (n : ℕ) → (x.number ≡ n → ⊥) → same_family n (family_of x) ≡ false
unfolding family_of all_of
other_family x n e = rw (ne_eqb x.number n e)

-- ---- a fact that a relation record may name: it is not boolean, and its family has a record

abbrev pub related : List case.Family → paper.Fact → Bool
related ms y = not (paper.is_boolean y) && any_of (λ m. all_of (eqb m.number) y.family) ms

pub boolean_unrelated : (ms : List case.Family) (y : Fact) → y.boolean ≡ true → related ms (fact_of y) ≡ false
boolean_unrelated ms y b = rw (boolean_of_lem y ∙ b)

pub family_related : (ms : List case.Family) (y : Fact) → y.boolean ≡ false → related ms (fact_of y) ≡ any_of (same_family y.family) ms
family_related ms y b = rw (boolean_of_lem y ∙ b, family_of_lem y b)

-- ---- the answer after all records, and the case that comes out

naming_fine : {A : Type 0} (a : A) (k : ℕ) (fs : List ℕ) → checked_of (first_fault k fs (fine a)) ≡ Accepted → first_fault k fs (fine a) ≡ fine a
unfolding checked_of first_fault
naming_fine a k [] e = refl
naming_fine a k (zero ∷ fs) e = naming_fine a (k + 1) fs e
naming_fine a k (suc m ∷ fs) e = let z : ◌≡◌ {A = ℕ} 0 1 = cc in absurd (omega arith)

naming_refused : {A : Type 0} (a : A) (k : ℕ) (fs : List ℕ) (n j : ℕ) → checked_of (first_fault k fs (fine a)) ≡ Refused n j → (first_fault k fs (fine a) ≡ refused n j) × (n ≡ 0 → ⊥)
unfolding checked_of first_fault
naming_refused a k [] n j e = let z : ◌≡◌ {A = ℕ} 0 1 = cc in absurd (omega arith)
naming_refused a k (zero ∷ fs) n j e = naming_refused a (k + 1) fs n j e
naming_refused a k (suc m ∷ fs) n j e =
    let x : suc m ≡ n = cc in
    let y : k ≡ j = cc in
    (ap₂ (λ (u v : ℕ). refused u v) x y, λ z. omega (arith, x, z))

module _ (P : paper.Plan) (s : List ℕ) (r : CaseRead) (e : case_read_of r ≡ case.case_records s) where
  pub stays_refused : (r.number ≡ 0 → ⊥) → case_read_of r ≡ case.read_case P s
  unfolding case_read_of case.read_case
  stays_refused n =
      let f : case_read_of r ≡ refused r.number r.«record» = rw (ne_eqb r.number 0 n) in
      f ∙ ap (λ v. on_fine v after) (sym f ∙ e)
    where
      after : case.Case → Verdict case.Case
      after C = first_fault (case.booleans_at C) (case.case_naming_faults P C) (fine C)

  module _ (n : r.number ≡ 0) where
    abbrev pub named : Verdict case.Case
    named = first_fault (case.booleans_at (case_of r.case)) (case.case_naming_faults P (case_of r.case)) (fine (case_of r.case))

    is_fine : case_read_of r ≡ fine (case_of r.case)
    unfolding case_read_of
    is_fine = rw (eq-eqb r.number 0 n)

    read-on : case.read_case P s ≡ named
    unfolding case.read_case
    read-on = ap (λ v. on_fine v (λ C. first_fault (case.booleans_at C) (case.case_naming_faults P C) (fine C))) (sym e ∙ is_fine)

    pub comes_out : (v : Checked) → v ≡ checked_of named → v ≡ Accepted → case_read_of r ≡ case.read_case P s
    comes_out v f g = is_fine ∙ sym (read-on ∙ naming_fine (case_of r.case) _ _ (sym f ∙ g))

    pub is_refused : {m j : ℕ} (v : Checked) (w : CaseRead) → v ≡ checked_of named → v ≡ Refused m j → w.number ≡ m → w.«record» ≡ j → case_read_of w ≡ case.read_case P s
    unfolding case_read_of
    is_refused {m = m} {j = j} v w f g x y =
        let h = naming_refused (case_of r.case) _ _ m j (sym f ∙ g) in
        rw (x, y, ne_eqb m 0 h.1) (sym (read-on ∙ h.0))
