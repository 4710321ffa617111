-- Laws of a row by its four fields.
use mathlib.Core.Path.{◌≡◌}
use mathlib.Core.List.{List}
use Prim.Native.Nat.{ℕ, ◌<◌}
use lib.ListN.{drop}
use Rattle.spreadsheet.specs.paper.Quoting.{Field, text}
use Rattle.spreadsheet.specs.paper.Rows.{comma, last, Row, row, row_by}
use Rattle.spreadsheet.specs.code.FieldSeen.{within, past, between, field_seen}
use Rattle.spreadsheet.specs.declared.field.Field.{Field as Seen}
use Rattle.spreadsheet.specs.declared.field.Field.TheVariants.{Text, Odd}

-- ---- a row

module _ (f : List ℕ → Field) (s : List ℕ) where
  pub row_one : Field.broken ≡ comma (f s) → Row.broken ≡ row_by f s
  unfolding row_by
  row_one e = rw (← e)

  module _ (k s₁ : List ℕ) (e₁ : text k s₁ ≡ comma (f s)) where
    pub row_two : Field.broken ≡ comma (f s₁) → Row.broken ≡ row_by f s
    unfolding row_by
    row_two e = rw (← e₁, ← e)

    module _ (l s₂ : List ℕ) (e₂ : text l s₂ ≡ comma (f s₁)) where
      pub row_three : Field.broken ≡ comma (f s₂) → Row.broken ≡ row_by f s
      unfolding row_by
      row_three e = rw (← e₁, ← e₂, ← e)

      module _ (r s₃ : List ℕ) (e₃ : text r s₃ ≡ comma (f s₂)) where
        pub row_last : Field.broken ≡ last (f s₃) → Row.broken ≡ row_by f s
        unfolding row_by
        row_last e = rw (← e₁, ← e₂, ← e₃, ← e)

        pub row-four : (c rest : List ℕ) → text c rest ≡ last (f s₃) → row k l r c rest ≡ row_by f s
        unfolding row_by
        row-four c rest e = rw (← e₁, ← e₂, ← e₃, ← e)

-- ---- what a field that was found says

module _ (s : List ℕ) (at : ℕ) (q : Seen) (a e n : ℕ) (is : q ≡ Text a e n) where
  pub found_text : (f : Field) → field_seen s q ≡ f → text (between s a e) (drop n s) ≡ f
  found_text f h = rw is at h

  pub found_within : within s at q → within s at (Text a e n)
  found_within h = rw is at h

  pub found_past : past at q → at < n
  found_past h = rw is at h

pub found_odd : (s : List ℕ) (q : Seen) (f : Field) → q ≡ Odd → field_seen s q ≡ f → Field.broken ≡ f
found_odd s q f is h = rw is at h
