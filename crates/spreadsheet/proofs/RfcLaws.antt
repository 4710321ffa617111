-- The table's rows are RFC 4180's records of four fields; and whether a bare CR or LF breaks the quoting cannot be seen.
use mathlib.Core.Path.{◌≡◌, refl, ap, sym, ◌∙◌}
use mathlib.Core.Bool.{Bool, true, false, cond}
use mathlib.Core.Logic.{⊎_elim}
use mathlib.Core.List.{List, [], ◌∷◌}
use Prim.Native.Nat.{ℕ, zero, suc}
use native.Mathlib.Omega.{arith}
use lib.ListN.{length, get_or, drop}
use lib.Dec.{eqb, eqb-suc-zero}
use borrow.Author.Tests.{eqb-true}
use Rattle.sets.specs.paper.Sets.{any_of}
use Rattle.sets.proofs.Local.{which}
use Rattle.spreadsheet.specs.paper.Quoting.{Field, text, strange, push, field_of}
use Rattle.spreadsheet.specs.paper.Rows.{on_field, comma, last, Row, row, row_by}
use Rattle.spreadsheet.specs.paper.RowRules.{rule_of, header_of}
use Rattle.spreadsheet.specs.code.FieldSeen.{clean}
use Rattle.spreadsheet.specs.promises.Rfc.{Record, fields, before, ended, record_by, four, RowsAreRecords, escaped, rfc_field, BareUnseen}
use Rattle.spreadsheet.proofs.FieldLaws.{inner, push-strange, push-clean, is_quote, quoted-clean}
use Rattle.spreadsheet.proofs.CleanLaws.{row_alike}
use Rattle.spreadsheet.proofs.RuleLaws.{rule_clean_by, rule_clean, head_clean_by, head_clean}

-- ---- records of four fields

-- behind a comma no row ends
comma-ends : (t rest : List ℕ) → eqb (get_or rest 0 0) 44 ≡ true → last (text t rest) ≡ Field.broken
comma-ends t [] e = absurd (let z : 0 ≡ 44 = eqb-true 0 44 e in omega arith)
comma-ends t (b ∷ rest) e = rw (eqb-suc-zero (length rest), eqb-true b 44 e)

-- broken, or of one field at least
data Some : Record → Type 0 where
  some : {t : List ℕ} {ts : List (List ℕ)} {rest : List ℕ} → Some (fields (t ∷ ts) rest)
  none : Some Record.broken

some-ended : (f : Field) → Some (ended f)
some-ended (text t rest) = some
some-ended Field.broken = none

some-before : (t : List ℕ) (r : Record) → Some (before t r)
some-before t (fields ts rest) = some
some-before t Record.broken = none

some_if : (x : Bool) (r q : Record) → Some r → Some q → Some (cond x r q)
some_if true r q a b = a
some_if false r q a b = b

some-on : (f : Field) (g : List ℕ → List ℕ → Record) → ((t rest : List ℕ) → Some (g t rest)) → Some (on_field f g Record.broken)
some-on (text t rest) g h = h t rest
some-on Field.broken g h = none

some_record : (f : List ℕ → Field) (n : ℕ) (s : List ℕ) → Some (record_by f n s)
unfolding record_by
some_record f zero s = none
some_record f (suc n) s = some-on (f s) _ (λ t rest. some_if (eqb (get_or rest 0 0) 44) (before t (record_by f n (drop 1 rest))) (ended (last (text t rest))) (some-before t (record_by f n (drop 1 rest))) (some-ended (last (text t rest))))

module _ (k l r : List ℕ) where
  long : (c : List ℕ) (q : Record) → Some q → four (before k (before l (before r (before c q)))) ≡ Row.broken
  long c (fields [] rest) x = elim x [ ]
  long c (fields (t ∷ ts) rest) some = refl
  long c Record.broken none = refl

  four_end : (f : Field) → four (before k (before l (before r (ended f)))) ≡ on_field f (λ c rest. row k l r c rest) Row.broken
  four_end (text t rest) = refl
  four_end Field.broken = refl

three_end : (k l : List ℕ) (f : Field) → four (before k (before l (ended f))) ≡ Row.broken
three_end k l (text t rest) = refl
three_end k l Field.broken = refl

two_end : (k : List ℕ) (f : Field) → four (before k (ended f)) ≡ Row.broken
two_end k (text t rest) = refl
two_end k Field.broken = refl

one_end_lem : (f : Field) → four (ended f) ≡ Row.broken
one_end_lem (text t rest) = refl
one_end_lem Field.broken = refl

-- what a record does with a field that others may follow, by the field that was read
module _ (f : List ℕ → Field) (H : Record → Row) (G : List ℕ → List ℕ → Row) (n : ℕ) where
  step : (x : Field) → H Record.broken ≡ Row.broken
      → ((t rest : List ℕ) → H (before t (record_by f n rest)) ≡ G t rest)
      → ((q : Field) → H (ended q) ≡ Row.broken)
      → H (on_field x (λ t rest. cond (eqb (get_or rest 0 0) 44) (before t (record_by f n (drop 1 rest))) (ended (last (text t rest)))) Record.broken) ≡ on_field (comma x) G Row.broken
  step Field.broken b h e = b
  step (text t rest) b h e = ⊎_elim
      (λ (g : eqb (get_or rest 0 0) 44 ≡ true). rw g (h t (drop 1 rest)))
      (λ (g : eqb (get_or rest 0 0) 44 ≡ false). rw g (e (last (text t rest))))
      (which (eqb (get_or rest 0 0) 44))

module _ (f : List ℕ → Field) (n : ℕ) where
  stage_four : (k l r : List ℕ) (x : Field) → four (before k (before l (before r (on_field x (λ t rest. cond (eqb (get_or rest 0 0) 44) (before t (record_by f n (drop 1 rest))) (ended (last (text t rest)))) Record.broken)))) ≡ on_field (last x) (λ c rest. row k l r c rest) Row.broken
  stage_four k l r Field.broken = refl
  stage_four k l r (text t rest) = ⊎_elim
      (λ (g : eqb (get_or rest 0 0) 44 ≡ true). rw (comma-ends t rest g, g) (long k l r t (record_by f n (drop 1 rest)) (some_record f n (drop 1 rest))))
      (λ (g : eqb (get_or rest 0 0) 44 ≡ false). rw g (four_end k l r (last (text t rest))))
      (which (eqb (get_or rest 0 0) 44))

  record_one : (k l r s : List ℕ) → four (before k (before l (before r (record_by f (suc n) s)))) ≡ on_field (last (f s)) (λ c rest. row k l r c rest) Row.broken
  unfolding record_by
  record_one k l r s = stage_four k l r (f s)

  record_two : (k l s : List ℕ) → four (before k (before l (record_by f (suc (suc n)) s))) ≡ on_field (comma (f s)) (λ r s₃. on_field (last (f s₃)) (λ c rest. row k l r c rest) Row.broken) Row.broken
  unfolding record_by
  record_two k l s = step f (λ q. four (before k (before l q))) _ (suc n) (f s) refl (λ r s₃. record_one k l r s₃) (three_end k l)

  record_three : (k s : List ℕ) → four (before k (record_by f (suc (suc (suc n))) s)) ≡ on_field (comma (f s)) (λ l s₂. on_field (comma (f s₂)) (λ r s₃. on_field (last (f s₃)) (λ c rest. row k l r c rest) Row.broken) Row.broken) Row.broken
  unfolding record_by
  record_three k s = step f (λ q. four (before k q)) _ (suc (suc n)) (f s) refl (λ l s₂. record_two k l s₂) (two_end k)

  four_of_record : (s : List ℕ) → four (record_by f (suc (suc (suc (suc n)))) s) ≡ row_by f s
  unfolding record_by row_by
  four_of_record s = step f (λ q. four q) _ (suc (suc (suc n))) (f s) refl (λ k s₁. record_three k s₁) one_end_lem

pub rows_are_records : RowsAreRecords
rows_are_records f n s = four_of_record f n s

-- ---- a bare CR or LF in quotes

closing_free : (s : List ℕ) → clean (escaped 34 s) ≡ cond (eqb (get_or s 0 0) 34) Field.broken (text [] s)
unfolding clean escaped any_of strange
closing_free [] = refl
closing_free (c ∷ s) = ⊎_elim
    (λ (e : eqb c 34 ≡ true). rw e (push-strange 34 (escaped 0 s) refl))
    (λ (e : eqb c 34 ≡ false). rw e refl)
    (which (eqb c 34))

escaped-clean : (p : ℕ) (s : List ℕ) → eqb p 34 ≡ false → clean (escaped p s) ≡ inner s
unfolding clean escaped inner
escaped-clean p [] e = rw e
escaped-clean p (b ∷ s) e = ⊎_elim
    (λ (q : eqb b 34 ≡ true). rw (e, is_quote b q, q) (closing_free s))
    (λ (q : eqb b 34 ≡ false). ⊎_elim
    (λ (x : strange b ≡ true). rw (e, q, x) (push-strange b (escaped b s) x))
    (λ (x : strange b ≡ false). rw (e, q, x) (push-clean b (escaped b s) x ∙ ap (push b) (escaped-clean b s q)))
    (which (strange b)))
    (which (eqb b 34))

free_clean : (s : List ℕ) → clean (rfc_field s) ≡ clean (field_of s)
unfolding rfc_field field_of
free_clean s = ⊎_elim
    (λ (e : eqb (get_or s 0 0) 34 ≡ true). rw e (escaped-clean 0 (drop 1 s) refl ∙ sym (quoted-clean 0 (drop 1 s) refl refl)))
    (λ (e : eqb (get_or s 0 0) 34 ≡ false). rw e refl)
    (which (eqb (get_or s 0 0) 34))

alike : (s : List ℕ) → row_by (λ x. clean (rfc_field x)) s ≡ row_by (λ x. clean (field_of x)) s
alike s = row_alike (λ x. clean (rfc_field x)) (λ x. clean (field_of x)) free_clean s

pub bare_unseen : BareUnseen
bare_unseen s = (
  sym (rule_clean_by rfc_field s) ∙ ap rule_of (alike s) ∙ rule_clean s,
  sym (head_clean_by rfc_field s) ∙ ap header_of (alike s) ∙ head_clean s,
)
