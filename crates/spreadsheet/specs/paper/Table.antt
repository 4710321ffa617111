-- The plan that a table gives, or the first row with a fault. Document 02, Ticket 2: rows are gone through one by one, "the header is row 0".
use Rattle.std.specs.Prelude.{cond, List, [], ◌∷◌, ◌++◌, ℕ, zero, suc, ◌+◌, length, eqb, ltb}
use Rattle.records.specs.paper.Fields.{Verdict, fine, refused}
use Rattle.records.specs.paper.Plan.{Plan, literal, Edge, Status}
use Rattle.spreadsheet.specs.paper.Rows.{row_of}
use Rattle.spreadsheet.specs.paper.RowRules.{Rule, joins, marks, bad, rule_of, Start, behind, none, header_of}

-- "edges before statuses and in row order among each, with roster relation 1, no chain citation, no empty lists and one node, the literal 1"
abbrev pub drafted : List Edge → List Status → Plan
drafted es ts = record {
  headings = record { relation = 1; chain = [] } ∷ [];
  facts = [];
  nodes = literal 1 ∷ [];
  edges = es;
  cuts = [];
  attachments = [];
  bars = [];
  statuses = ts;
}

abbrev pub on_rule : {A : Type 0} → Rule → (Edge → List ℕ → A) → (Status → List ℕ → A) → A → A
on_rule (joins e rest) f g b = f e rest
on_rule (marks t rest) f g b = g t rest
on_rule bad f g b = b

abbrev pub on_start : {A : Type 0} → Start → (List ℕ → A) → A → A
on_start (behind rest) f b = f rest
on_start none f b = b

-- the rows from row n on, es and ts being the edges and statuses of the rows before; fuel is more than the rows that are left. "16, the first row
-- that breaks the quoting, the header, the count of fields, a word, a number's form or range, a status's empty field or the plan's limit of edges or
-- statuses, with its row"
unfoldable pub rows_from : ℕ → List ℕ → List Edge → List Status → ℕ → Verdict Plan
rows_from zero s es ts n = refused 16 n
rows_from (suc k) s es ts n =
    cond (eqb (length s) 0) (fine (drafted es ts))
    (on_rule (rule_of (row_of s))
    (λ e rest. cond (ltb (length es) 64) (rows_from k rest (es ++ (e ∷ [])) ts (n + 1)) (refused 16 n))
    (λ t rest. cond (ltb (length ts) 32) (rows_from k rest es (ts ++ (t ∷ [])) (n + 1)) (refused 16 n))
    (refused 16 n))

-- THE PLAN OF A TABLE
unfoldable pub tabled : List ℕ → Verdict Plan
tabled s = on_start (header_of (row_of s)) (λ rest. rows_from (suc (length s)) rest [] [] 1) (refused 16 0)
