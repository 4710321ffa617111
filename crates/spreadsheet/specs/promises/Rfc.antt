-- RFC 4180's own grammar beside the table's rows: records of any number of fields, and quotes that hold CR and LF in any order. A field may hold bytes
-- outside the grammar's TEXTDATA too: no word and no number has one. proofs/RfcLaws.antt shows both statements.
use Rattle.std.specs.Prelude.{◌≡◌, cond, List, [], ◌∷◌, ℕ, zero, suc, get_or, drop, eqb}
use Rattle.spreadsheet.specs.paper.Quoting.{Field, text, push, plain}
use Rattle.spreadsheet.specs.paper.Rows.{on_field, last, Row, row, row_by, row_of}
use Rattle.spreadsheet.specs.paper.RowRules.{rule_of, header_of}

-- ---- "record = field *(COMMA field)"

-- the fields' texts, and the bytes behind the record
pub data Record : Type 0 where
  fields : List (List ℕ) → List ℕ → Record
  broken : Record

abbrev pub before : List ℕ → Record → Record
before t (fields ts rest) = fields (t ∷ ts) rest
before t broken = broken

-- a record's last field
abbrev pub ended : Field → Record
ended (text t rest) = fields (t ∷ []) rest
ended Field.broken = broken

-- a record of at most n fields, by any reading of a field
unfoldable pub record_by : (List ℕ → Field) → ℕ → List ℕ → Record
record_by f zero s = broken
record_by f (suc n) s = on_field (f s) (λ t rest. cond (eqb (get_or rest 0 0) 44) (before t (record_by f n (drop 1 rest))) (ended (last (text t rest)))) broken

-- a record of four fields
abbrev pub four : Record → Row
four broken = Row.broken
four (fields [] rest) = Row.broken
four (fields (k ∷ []) rest) = Row.broken
four (fields (k ∷ l ∷ []) rest) = Row.broken
four (fields (k ∷ l ∷ r ∷ []) rest) = Row.broken
four (fields (k ∷ l ∷ r ∷ c ∷ []) rest) = row k l r c rest
four (fields (k ∷ l ∷ r ∷ c ∷ x ∷ xs) rest) = Row.broken

-- THE TABLE'S ROWS ARE THE RECORDS OF FOUR FIELDS, however many fields beyond four are looked for
abbrev pub RowsAreRecords : Type 0
RowsAreRecords = (f : List ℕ → Field) (n : ℕ) (s : List ℕ) → four (record_by f (suc (suc (suc (suc n)))) s) ≡ row_by f s

-- ---- "escaped = DQUOTE *(TEXTDATA / COMMA / CR / LF / 2DQUOTE) DQUOTE"

-- behind the opening quote, p being the byte before (0 at first, and behind two quotes)
unfoldable pub escaped : ℕ → List ℕ → Field
escaped p [] = cond (eqb p 34) (text [] []) Field.broken
escaped p (b ∷ s) =
    cond (eqb p 34) (cond (eqb b 34) (push 34 (escaped 0 s)) (text [] (b ∷ s)))
    (cond (eqb b 34) (escaped 34 s) (push b (escaped b s)))

-- "field = (escaped / non-escaped)"
unfoldable pub rfc_field : List ℕ → Field
rfc_field s = cond (eqb (get_or s 0 0) 34) (escaped 0 (drop 1 s)) (plain s)

-- WHETHER A BARE CR OR LF BREAKS THE QUOTING CANNOT BE SEEN: every row gives the same rule, or none, and is the header or not, either way
abbrev pub BareUnseen : Type 0
BareUnseen = (s : List ℕ) → (rule_of (row_by rfc_field s) ≡ rule_of (row_of s)) × (header_of (row_by rfc_field s) ≡ header_of (row_of s))
