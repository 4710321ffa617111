-- A plan imported from a table. Document 02, Ticket 2: "17, the plan does not fit the lent buffer. 16 is checked first."
use Rattle.std.specs.Prelude.{List, ℕ}
use Rattle.spreadsheet.specs.paper.Table.{tabled}
use Rattle.encoding.specs.paper.Placed.{Kept, placed}

-- IMPORT A TABLE
unfoldable pub imported : List ℕ → ℕ → Kept
imported table room = placed room 17 (tabled table)
