-- A row of a table: four fields, commas between them, then CRLF or the end. Document 02, Ticket 2: "Rows end in CRLF, which the last may lack".
use Rattle.std.specs.Prelude.{cond, List, ℕ, length, get_or, drop, eqb}
use Rattle.spreadsheet.specs.paper.Quoting.{Field, text, field_of}

abbrev pub on_field : {A : Type 0} → Field → (List ℕ → List ℕ → A) → A → A
on_field (text t rest) f b = f t rest
on_field Field.broken f b = b

-- a field with the comma behind it
abbrev pub comma : Field → Field
comma (text t rest) = cond (eqb (get_or rest 0 0) 44) (text t (drop 1 rest)) Field.broken
comma Field.broken = Field.broken

-- a row's last field, with the row's end
abbrev pub last : Field → Field
last (text t rest) =
    cond (eqb (length rest) 0) (text t rest) (cond (eqb (get_or rest 0 0) 13) (cond (eqb (get_or rest 1 0) 10) (text t (drop 2 rest)) Field.broken) Field.broken)
last Field.broken = Field.broken

-- the four texts, and the bytes behind the row
pub data Row : Type 0 where
  row : List ℕ → List ℕ → List ℕ → List ℕ → List ℕ → Row
  -- the quoting is broken, or there are fewer fields, or more
  broken : Row

-- by any reading of a field
unfoldable pub row_by : (List ℕ → Field) → List ℕ → Row
row_by f s =
    on_field (comma (f s)) (λ k s₁.
    on_field (comma (f s₁)) (λ l s₂.
    on_field (comma (f s₂)) (λ r s₃.
    on_field (last (f s₃)) (λ c rest. row k l r c rest) broken) broken) broken) broken

abbrev pub row_of : List ℕ → Row
row_of s = row_by field_of s
