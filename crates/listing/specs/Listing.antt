-- What the lister prints of a plan and a case. Document 01, "Line and event".
use Rattle.std.specs.Prelude.{List, ℕ, zero, suc}
use Rattle.report.specs.paper.Operations.{Told, told, Outcome, answer}
use Rattle.report.specs.paper.LineAt.{lines_from}
use Rattle.listing.specs.Text.{table, refused_row}

-- the lines are read out of the buffer of lines
abbrev pub text_of : Told → List ℕ → List ℕ
text_of t lines = elim t.refusal [
  | zero ↦ table (lines_from lines 0 t.lines)
  | suc n ↦ refused_row (suc n) t.«record»
]

abbrev pub outcome_text : Outcome → List ℕ
outcome_text o = text_of (told o.answer) o.lines

-- no text is longer
abbrev pub longest : ℕ
longest = 13216

-- THE LISTING, with the lengths of the two buffers lent for lines and events
unfoldable pub listing : List ℕ → List ℕ → ℕ → ℕ → List ℕ
listing plan case line_room event_room = outcome_text (answer plan case line_room event_room)
