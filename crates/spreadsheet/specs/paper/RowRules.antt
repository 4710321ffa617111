-- The rule that a row becomes, and the header. Document 02, Ticket 2: "The header is kind,left,right,citation; kind is base, combination or status; a
-- status has an empty right field"; "Each row becomes a rule with a condition that is always true".
use Rattle.std.specs.Prelude.{Bool, true, false, cond, List, [], ◌∷◌, ℕ, length, eqb}
use Rattle.records.specs.paper.Fields.{person, citation}
use Rattle.records.specs.paper.Plan.{Edge, Status}
use Rattle.spreadsheet.specs.paper.Rows.{Row, row, broken}
use Rattle.spreadsheet.specs.paper.Numerals.{number_of, on_number}

-- ---- words, by their bytes

unfoldable pub same : List ℕ → List ℕ → Bool
same [] [] = true
same [] (y ∷ ys) = false
same (x ∷ xs) [] = false
same (x ∷ xs) (y ∷ ys) = cond (eqb x y) (same xs ys) false

-- base
abbrev pub base_word : List ℕ
base_word = 98 ∷ 97 ∷ 115 ∷ 101 ∷ []

-- combination
abbrev pub combination_word : List ℕ
combination_word = 99 ∷ 111 ∷ 109 ∷ 98 ∷ 105 ∷ 110 ∷ 97 ∷ 116 ∷ 105 ∷ 111 ∷ 110 ∷ []

-- status
abbrev pub status_word : List ℕ
status_word = 115 ∷ 116 ∷ 97 ∷ 116 ∷ 117 ∷ 115 ∷ []

-- kind
abbrev pub kind_word : List ℕ
kind_word = 107 ∷ 105 ∷ 110 ∷ 100 ∷ []

-- left
abbrev pub left_word : List ℕ
left_word = 108 ∷ 101 ∷ 102 ∷ 116 ∷ []

-- right
abbrev pub right_word : List ℕ
right_word = 114 ∷ 105 ∷ 103 ∷ 104 ∷ 116 ∷ []

-- citation
abbrev pub citation_word : List ℕ
citation_word = 99 ∷ 105 ∷ 116 ∷ 97 ∷ 116 ∷ 105 ∷ 111 ∷ 110 ∷ []

-- ---- rules: node 0 is the literal 1, "no empty lists"

abbrev pub edge_between : Bool → ℕ → ℕ → ℕ → Edge
edge_between combination l r c = record { left = l; right = r; condition = 0; citation = c; defeaters = []; combination = combination }

abbrev pub status_on : ℕ → ℕ → Status
status_on p c = record { person = p; condition = 0; citation = c }

-- a row's rule and the bytes behind the row
pub data Rule : Type 0 where
  joins : Edge → List ℕ → Rule
  marks : Status → List ℕ → Rule
  bad : Rule

-- persons and citations are in the plan's own ranges
unfoldable pub edge_rule : Bool → List ℕ → List ℕ → List ℕ → List ℕ → Rule
edge_rule combination l r c rest =
    on_number (number_of person.top l) (λ a.
    on_number (number_of person.top r) (λ b.
    on_number (number_of citation.top c) (λ z. joins (edge_between combination a b z) rest) bad) bad) bad

unfoldable pub status_rule : List ℕ → List ℕ → List ℕ → List ℕ → Rule
status_rule l r c rest =
    cond (eqb (length r) 0)
    (on_number (number_of person.top l) (λ p. on_number (number_of citation.top c) (λ z. marks (status_on p z) rest) bad) bad) bad

unfoldable pub rule_of : Row → Rule
rule_of broken = bad
rule_of (row k l r c rest) =
    cond (same k base_word) (edge_rule false l r c rest)
    (cond (same k combination_word) (edge_rule true l r c rest) (cond (same k status_word) (status_rule l r c rest) bad))

-- ---- the header, and the bytes behind it

pub data Start : Type 0 where
  behind : List ℕ → Start
  none : Start

unfoldable pub header_of : Row → Start
header_of broken = none
header_of (row k l r c rest) =
    cond (same k kind_word) (cond (same l left_word) (cond (same r right_word) (cond (same c citation_word) (behind rest) none) none) none) none
