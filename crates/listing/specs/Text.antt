-- The lister's rows as bytes, in ASCII. Document 01, "Line and event": "a line feed ends rows"; the last row by document 02, Ticket 3.
use Rattle.std.specs.Prelude.{List, [], ◌∷◌, ◌++◌, ℕ}
use Rattle.sets.specs.paper.Sets.{members}
use Rattle.page.specs.Decimal.{decimal}
use Rattle.report.specs.paper.Line.{Line}
use Rattle.billing.specs.paper.Households.{household_count}

-- ---- the row of a line

abbrev pub feed : ℕ
feed = 10

abbrev pub space : ℕ
space = 32

-- persons that stand behind another: each with a comma before it
unfoldable pub further : List ℕ → List ℕ
further [] = []
further (p ∷ ps) = 44 ∷ (decimal p ++ further ps)

-- 'A missing block prints "-"'
unfoldable pub persons : List ℕ → List ℕ
persons [] = 45 ∷ []
persons (p ∷ ps) = decimal p ++ further ps

-- a number that is not the last of its row: "One space parts fields"
unfoldable pub cell : ℕ → List ℕ
cell n = decimal n ++ (space ∷ [])

-- person, kind, role, block
unfoldable pub row_of : ℕ → ℕ → ℕ → ℕ → List ℕ
row_of person kind role block = cell person ++ (cell kind ++ (cell role ++ (persons (members block) ++ (feed ∷ []))))

abbrev pub row : Line → List ℕ
row l = row_of l.person l.kind l.role l.block

unfoldable pub rows : List Line → List ℕ
rows [] = []
rows (l ∷ ls) = row l ++ rows ls

-- ---- the first row and the last

-- "person kind role block"
abbrev pub header : List ℕ
header =
    112 ∷ 101 ∷ 114 ∷ 115 ∷ 111 ∷ 110 ∷ space ∷ 107 ∷ 105 ∷ 110 ∷ 100 ∷ space ∷ 114 ∷ 111 ∷ 108 ∷ 101 ∷ space ∷ 98 ∷ 108 ∷ 111 ∷ 99 ∷ 107 ∷ feed ∷ []

-- "units"
abbrev pub units_word : List ℕ
units_word = 117 ∷ 110 ∷ 105 ∷ 116 ∷ 115 ∷ space ∷ []

-- and so many
unfoldable pub last_row : ℕ → List ℕ
last_row n = units_word ++ (decimal n ++ (feed ∷ []))

-- "The last row of the lister counts" the households (document 02, Ticket 3)
unfoldable pub table : List Line → List ℕ
table ls = header ++ (rows ls ++ last_row (household_count ls))

-- "refused"
abbrev pub refused_word : List ℕ
refused_word = 114 ∷ 101 ∷ 102 ∷ 117 ∷ 115 ∷ 101 ∷ 100 ∷ space ∷ []

-- "On a refusal it prints only `refused`, number and record"
unfoldable pub refused_row : ℕ → ℕ → List ℕ
refused_row n k = refused_word ++ (cell n ++ (decimal k ++ (feed ∷ [])))
