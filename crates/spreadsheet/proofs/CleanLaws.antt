-- A field with a quote, CR or LF in it is never a word, a number or empty: a row that has one is refused either way.
use mathlib.Core.Path.{◌≡◌, refl, ap, sym, ◌∙◌}
use mathlib.Core.Bool.{Bool, true, false, cond}
use mathlib.Core.Logic.{⊎_elim}
use mathlib.Core.List.{List, [], ◌∷◌}
use Prim.Native.Nat.{ℕ, ◌≤◌}
use native.Mathlib.Omega.{arith}
use lib.ListN.{length, drop, get_or}
use lib.Dec.{eqb, leb, eqb-suc-zero}
use borrow.Author.Tests.{eqb-true, ne_eqb, leb-true}
use Rattle.sets.specs.paper.Sets.{any_of}
use Rattle.sets.proofs.Local.{which}
use Rattle.spreadsheet.specs.paper.Quoting.{Field, text, strange}
use Rattle.spreadsheet.specs.paper.Rows.{comma, last, on_field, Row, row, row_by}
use Rattle.spreadsheet.specs.paper.Numerals.{Number, digits, decimal_from, number_of, leads}
use Rattle.spreadsheet.specs.paper.RowRules.{same}
use Rattle.spreadsheet.specs.code.FieldSeen.{clean}

-- ---- clean stands before or after the comma

clean-text : (t r : List ℕ) (x : Bool) → any_of strange t ≡ x → clean (text t r) ≡ cond x Field.broken (text t r)
unfolding clean
clean-text t r x e = rw e

comma_step : (t rest : List ℕ) (x y : Bool) → any_of strange t ≡ x → eqb (get_or rest 0 0) 44 ≡ y → comma (clean (text t rest)) ≡ clean (comma (text t rest))
unfolding clean
comma_step t rest true true e g = rw (e, g, e)
comma_step t rest true false e g = rw (e, g)
comma_step t rest false true e g = rw (e, g, e)
comma_step t rest false false e g = rw (e, g)

comma-clean : (f : Field) → comma (clean f) ≡ clean (comma f)
unfolding clean
comma-clean Field.broken = refl
comma-clean (text t rest) = comma_step t rest _ _ refl refl

clean-broken : clean Field.broken ≡ Field.broken
unfolding clean
clean-broken = refl

clean_if : (x : Bool) (f g : Field) → clean (cond x f g) ≡ cond x (clean f) (clean g)
clean_if true f g = refl
clean_if false f g = refl

all_broken : (x y z : Bool) → Field.broken ≡ cond x Field.broken (cond y (cond z Field.broken Field.broken) Field.broken)
all_broken true y z = refl
all_broken false true true = refl
all_broken false true false = refl
all_broken false false z = refl

last-clean : (f : Field) → last (clean f) ≡ clean (last f)
last-clean Field.broken = ap last clean-broken ∙ sym clean-broken
last-clean (text t rest) =
    let a = eqb (length rest) 0 in
    let b = eqb (get_or rest 0 0) 13 in
    let c = eqb (get_or rest 1 0) 10 in
    let t₂ = text t (drop 2 rest) in
    let open_up : clean (last (text t rest)) ≡ cond a (clean (text t rest)) (cond b (cond c (clean t₂) (clean Field.broken)) (clean Field.broken)) =
    clean_if a (text t rest) (cond b (cond c t₂ Field.broken) Field.broken)
    ∙ ap (cond a (clean (text t rest))) (clean_if b (cond c t₂ Field.broken) Field.broken
    ∙ ap (λ (x : Field). cond b x (clean Field.broken)) (clean_if c t₂ Field.broken)) in
    ⊎_elim
    (λ (e : any_of strange t ≡ true). rw (open_up, clean-text t rest true e, clean-text t (drop 2 rest) true e, clean-broken) (all_broken a b c))
    (λ (e : any_of strange t ≡ false). rw (open_up, clean-text t rest false e, clean-text t (drop 2 rest) false e, clean-broken) refl)
    (which (any_of strange t))

-- ---- any reading of rows that refuses strange fields reads clean fields alike

module _ {A : Type 0} (X : Row → A) where
  on_dead : (f : Field) (g : List ℕ → List ℕ → Row) → ((t rest : List ℕ) → X (g t rest) ≡ X Row.broken) → X (on_field f g Row.broken) ≡ X Row.broken
  on_dead (text t rest) g h = h t rest
  on_dead Field.broken g h = refl

  on_same : (f : Field) (g g' : List ℕ → List ℕ → Row) → ((t rest : List ℕ) → X (g t rest) ≡ X (g' t rest)) → X (on_field f g Row.broken) ≡ X (on_field f g' Row.broken)
  on_same (text t rest) g g' h = h t rest
  on_same Field.broken g g' h = refl

  on-clean : (f : Field) (g : List ℕ → List ℕ → Row) → ((t rest : List ℕ) → any_of strange t ≡ true → X (g t rest) ≡ X Row.broken) → X (on_field (clean f) g Row.broken) ≡ X (on_field f g Row.broken)
  unfolding clean
  on-clean (text t rest) g h = ⊎_elim
      (λ (e : any_of strange t ≡ true). rw e (sym (h t rest e)))
      (λ (e : any_of strange t ≡ false). rw e refl)
      (which (any_of strange t))
  on-clean Field.broken g h = refl

  module _ (f : List ℕ → Field)
      (h₁ : (k l r c rest : List ℕ) → any_of strange k ≡ true → X (row k l r c rest) ≡ X Row.broken)
      (h₂ : (k l r c rest : List ℕ) → any_of strange l ≡ true → X (row k l r c rest) ≡ X Row.broken)
      (h₃ : (k l r c rest : List ℕ) → any_of strange r ≡ true → X (row k l r c rest) ≡ X Row.broken)
      (h₄ : (k l r c rest : List ℕ) → any_of strange c ≡ true → X (row k l r c rest) ≡ X Row.broken) where
    abbrev R4 : (List ℕ → Field) → List ℕ → List ℕ → List ℕ → List ℕ → Row
    R4 f k l r s = on_field (last (f s)) (λ c rest. row k l r c rest) Row.broken

    abbrev R3 : (List ℕ → Field) → List ℕ → List ℕ → List ℕ → Row
    R3 f k l s = on_field (comma (f s)) (λ r s₃. R4 f k l r s₃) Row.broken

    abbrev R2 : (List ℕ → Field) → List ℕ → List ℕ → Row
    R2 f k s = on_field (comma (f s)) (λ l s₂. R3 f k l s₂) Row.broken

    abbrev f' : List ℕ → Field
    f' s = clean (f s)

    four : (k l r s : List ℕ) → X (R4 f' k l r s) ≡ X (R4 f k l r s)
    four k l r s = rw (last-clean (f s)) (on-clean (last (f s)) (λ c rest. row k l r c rest) (λ c rest e. h₄ k l r c rest e))

    three : (k l s : List ℕ) → X (R3 f' k l s) ≡ X (R3 f k l s)
    three k l s =
        ap (λ (x : Field). X (on_field x (λ r s₃. R4 f' k l r s₃) Row.broken)) (comma-clean (f s))
        ∙ on-clean (comma (f s)) (λ r s₃. R4 f' k l r s₃) (λ r s₃ e. on_dead (last (f' s₃)) (λ c rest. row k l r c rest) (λ c rest. h₃ k l r c rest e))
        ∙ on_same (comma (f s)) (λ r s₃. R4 f' k l r s₃) (λ r s₃. R4 f k l r s₃) (λ r s₃. four k l r s₃)

    two : (k s : List ℕ) → X (R2 f' k s) ≡ X (R2 f k s)
    two k s =
        ap (λ (x : Field). X (on_field x (λ l s₂. R3 f' k l s₂) Row.broken)) (comma-clean (f s))
        ∙ on-clean (comma (f s)) (λ l s₂. R3 f' k l s₂)
        (λ l s₂ e. on_dead (comma (f' s₂)) (λ r s₃. R4 f' k l r s₃) (λ r s₃. on_dead (last (f' s₃)) (λ c rest. row k l r c rest) (λ c rest. h₂ k l r c rest e)))
        ∙ on_same (comma (f s)) (λ l s₂. R3 f' k l s₂) (λ l s₂. R3 f k l s₂) (λ l s₂. three k l s₂)

    -- clean fields or all
    pub row-clean : (s : List ℕ) → X (row_by f' s) ≡ X (row_by f s)
    unfolding row_by
    row-clean s =
        ap (λ (x : Field). X (on_field x (λ k s₁. R2 f' k s₁) Row.broken)) (comma-clean (f s))
        ∙ on-clean (comma (f s)) (λ k s₁. R2 f' k s₁)
        (λ k s₁ e. on_dead (comma (f' s₁)) (λ l s₂. R3 f' k l s₂) (λ l s₂. on_dead (comma (f' s₂)) (λ r s₃. R4 f' k l r s₃) (λ r s₃. on_dead (last (f' s₃)) (λ c rest. row k l r c rest) (λ c rest. h₁ k l r c rest e))))
        ∙ on_same (comma (f s)) (λ k s₁. R2 f' k s₁) (λ k s₁. R2 f k s₁) (λ k s₁. two k s₁)

pub row_alike : (f g : List ℕ → Field) → ((s : List ℕ) → f s ≡ g s) → (s : List ℕ) → row_by f s ≡ row_by g s
unfolding row_by
row_alike f g h s =
    let X : Row → Row = λ x. x in
    rw (h s) (on_same X (comma (g s)) _ _ (λ k s₁. rw (h s₁) (on_same X (comma (g s₁)) _ _ (λ l s₂. rw (h s₂) (on_same X (comma (g s₂)) _ _ (λ r s₃. rw (h s₃) refl))))))

-- ---- words, numbers, the empty field

same_eq : (k w : List ℕ) → same k w ≡ true → k ≡ w
unfolding same
same_eq [] [] e = refl
same_eq [] (y ∷ ys) e = cc
same_eq (x ∷ xs) [] e = cc
same_eq (x ∷ xs) (y ∷ ys) e = ⊎_elim
    (λ (g : eqb x y ≡ true). rw (eqb-true x y g) (ap (λ (l : List ℕ). y ∷ l) (same_eq xs ys (rw g at e))))
    (λ (g : eqb x y ≡ false). let z : false ≡ true = rw g at e in cc)
    (which (eqb x y))

pub word_strange : (k w : List ℕ) → any_of strange w ≡ false → any_of strange k ≡ true → same k w ≡ false
word_strange k w n e = ⊎_elim
    (λ (g : same k w ≡ true). let z : false ≡ true = sym n ∙ ap (any_of strange) (sym (same_eq k w g)) ∙ e in cc)
    (λ (g : same k w ≡ false). g)
    (which (same k w))

digit-strange : (b : ℕ) → 48 ≤ b → strange b ≡ false
unfolding strange
digit-strange b h = rw (ne_eqb b 34 (λ (e : b ≡ 34). omega arith), ne_eqb b 13 (λ (e : b ≡ 13). omega arith), ne_eqb b 10 (λ (e : b ≡ 10). omega arith))

both : (x y z : Bool) → cond x (cond y z false) false ≡ true → (x ≡ true) × (z ≡ true)
both true true z e = (refl, e)
both true false z e = (refl, cc)
both false y z e = (cc, cc)

digits-clean : (t : List ℕ) → digits t ≡ true → any_of strange t ≡ false
unfolding digits any_of
digits-clean [] e = refl
digits-clean (b ∷ t) e =
    let p = both (leb 48 b) (leb b 57) (digits t) e in
    rw (digit-strange b (leb-true 48 b p.0)) (digits-clean t p.1)

pub number-strange : (top : ℕ) (t : List ℕ) → any_of strange t ≡ true → number_of top t ≡ Number.none
unfolding number_of decimal_from
number-strange top t e = ⊎_elim
    (λ (g : digits t ≡ true). let z : false ≡ true = sym (digits-clean t g) ∙ e in cc)
    (λ (g : digits t ≡ false). rw g (⊎_elim (λ (l : leads t ≡ true). rw l refl) (λ (l : leads t ≡ false). rw l refl) (which (leads t))))
    (which (digits t))

pub empty_strange : (t : List ℕ) → any_of strange t ≡ true → eqb (length t) 0 ≡ false
unfolding any_of
empty_strange [] e = cc
empty_strange (b ∷ t) e = eqb-suc-zero (length t)
