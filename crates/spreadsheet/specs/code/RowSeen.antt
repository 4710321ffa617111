-- What the code's rows stand for.
use Rattle.std.specs.Prelude.{List, ℕ, ◌≤◌, ◌<◌, length, drop}
use Rattle.spreadsheet.specs.paper.Rows as paper
use Rattle.spreadsheet.specs.code.FieldSeen.{between}
use Rattle.spreadsheet.specs.declared.row.Cells.{Cells}
use Rattle.spreadsheet.specs.declared.row.Row.{Row}
use Rattle.spreadsheet.specs.declared.row.Row.TheVariants.{Four, Odd}

abbrev pub cells_seen : List ℕ → Cells → paper.Row
cells_seen s q =
    paper.row (between s q.kind q.kind_end) (between s q.left q.left_end) (between s q.right q.right_end)
    (between s q.citation q.citation_end) (drop q.next s)

abbrev pub row_seen : List ℕ → Row → paper.Row
row_seen s (Four q) = cells_seen s q
row_seen s Odd = paper.Row.broken

-- each field is in the table
pub record CellsStand (s : List ℕ) (q : Cells) : Type 0 where
  pub kind : (q.kind ≤ q.kind_end) × (q.kind_end ≤ length s)
  pub left : (q.left ≤ q.left_end) × (q.left_end ≤ length s)
  pub right : (q.right ≤ q.right_end) × (q.right_end ≤ length s)
  pub citation : (q.citation ≤ q.citation_end) × (q.citation_end ≤ length s)
  pub next : q.next ≤ length s

abbrev pub row_within : List ℕ → ℕ → Row → Type 0
row_within s at (Four q) = CellsStand s q × (at < q.next)
row_within s at Odd = Unit {0}
