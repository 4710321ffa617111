-- The text of a case that is answered: header, rows, and the last row with the count of households.
use mathlib.Core.Path.{◌≡◌, refl, sym, ◌∙◌}
use mathlib.Core.List.{List, ◌++◌, append_assoc}
use Prim.Native.Nat.{ℕ, zero, suc}
use native.Mathlib.Omega.{arith}
use Rattle.report.specs.paper.Line.{Line}
use Rattle.report.specs.paper.LineAt.{lines_from}
use Rattle.report.specs.paper.Operations.{told, answer}
use Rattle.billing.specs.paper.Households.{household_count}
use Rattle.listing.specs.Text.{header, rows, last_row, table, refused_row}
use Rattle.listing.specs.Listing.{listing}

module _ (plan case : List ℕ) (line_room event_room : ℕ) where
  -- the lines of the answer
  abbrev pub ls : List Line
  ls = lines_from (answer plan case line_room event_room).lines 0 (told (answer plan case line_room event_room).answer).lines

  -- "The last row of the lister counts" households
  pub last_row_lem : (told (answer plan case line_room event_room).answer).refusal ≡ 0 → listing plan case line_room event_room ≡ (header ++ rows ls) ++ last_row (household_count ls)
  unfolding listing table
  last_row_lem given = pick (told (answer plan case line_room event_room).answer).refusal given ∙ sym (append_assoc header (rows ls) (last_row (household_count ls)))
    where
      pick : (m : ℕ) → m ≡ 0
          → elim m [ zero ↦ table ls | suc n ↦ refused_row (suc n) (told (answer plan case line_room event_room).answer).«record» ] ≡ table ls
      pick zero e = refl
      pick (suc m) e = absurd (omega arith)
