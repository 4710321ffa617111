-- What a table says, rule by rule: the words in which the promises of an import speak. Document 02, Ticket 2.
use Rattle.std.specs.Prelude.{◌≡◌, ◌⊎◌, List, [], ◌∷◌, ℕ, ◌+◌, ◌≤◌, ◌<◌, length}
use Rattle.records.specs.paper.Plan.{Edge, Status}
use Rattle.spreadsheet.specs.paper.Rows.{row_of}
use Rattle.spreadsheet.specs.paper.RowRules.{Rule, joins, marks, bad, rule_of, behind, none, header_of}

-- "Each row becomes a rule"
pub data RowRule : Type 0 where
  an_edge : Edge → RowRule
  a_status : Status → RowRule

-- before the bytes behind the row
abbrev pub rule_before : RowRule → List ℕ → Rule
rule_before (an_edge e) rest = joins e rest
rule_before (a_status t) rest = marks t rest

-- row after row gives these rules, and then come the bytes `rest`
abbrev pub Follows : List ℕ → List RowRule → List ℕ → Type 0
Follows s [] rest = s ≡ rest
Follows s (r ∷ rs) rest = (next : List ℕ) × (rule_of (row_of s) ≡ rule_before r next) × Follows next rs rest

-- behind the header
abbrev pub Headed : List ℕ → List RowRule → List ℕ → Type 0
Headed s rs rest = (first : List ℕ) × (header_of (row_of s) ≡ behind first) × Follows first rs rest

unfoldable pub edges_in : List RowRule → List Edge
edges_in [] = []
edges_in (an_edge e ∷ rs) = e ∷ edges_in rs
edges_in (a_status t ∷ rs) = edges_in rs

unfoldable pub statuses_in : List RowRule → List Status
statuses_in [] = []
statuses_in (an_edge e ∷ rs) = statuses_in rs
statuses_in (a_status t ∷ rs) = t ∷ statuses_in rs

-- "the plan's limit of edges or statuses"
abbrev pub Within : List RowRule → Type 0
Within rs = (length (edges_in rs) ≤ 64) × (length (statuses_in rs) ≤ 32)

-- a row that is no rule, or the rule past a limit
abbrev pub Breaks : List RowRule → List ℕ → Type 0
Breaks rs rest =
    (rule_of (row_of rest) ≡ bad)
    ⊎ (((e : Edge) × (next : List ℕ) × (rule_of (row_of rest) ≡ joins e next) × (length (edges_in rs) ≡ 64))
    ⊎ ((t : Status) × (next : List ℕ) × (rule_of (row_of rest) ≡ marks t next) × (length (statuses_in rs) ≡ 32)))

-- row n is the first with a fault: the header, or a row behind n − 1 rules that were fine
abbrev pub FirstFault : List ℕ → ℕ → Type 0
FirstFault s n =
    ((n ≡ 0) × (header_of (row_of s) ≡ none))
    ⊎ ((rs : List RowRule) × (rest : List ℕ) × Headed s rs rest × (n ≡ length rs + 1) × (0 < length rest) × Breaks rs rest × Within rs)
