-- Kinds 5 and 6: an answer without worlds.
use Rattle.std.specs.Prelude.{◌≡◌, Bool, cond, List, [], map, ℕ, length, replicate}
use Rattle.sets.specs.paper.Sets.{members}
use Rattle.report.specs.paper.Line.{bare_line}
use Rattle.report.specs.paper.Operations.{Outcome, written, refusal}
use Rattle.report.specs.declared.Answer.{Answer}
use Rattle.report.specs.declared.Answer.TheVariants.{Refused}
use Rattle.report.specs.declared.run.Wanted.{Wanted}

-- "Kinds 5 and 6: rest zero, no worlds, no events"; "14 no such world (always for kinds 5, 6)"
unfoldable pub worldless : Bool → ℕ → ℕ → ℕ → ℕ → Outcome
worldless all kind roster line_room event_room =
    cond all (written line_room event_room (map (bare_line kind) (members roster)) [] 0) (refusal line_room event_room (Refused 14 0))

-- with buffers that were all zero
pub record Worldless (w : Wanted) (kind roster : ℕ) (lines₀ lines₁ : List ℕ) (r : Answer) : Type 0 where
  pub at : (event_room : ℕ) → lines₀ ≡ replicate (length lines₀) 0
      → record { answer = r; lines = lines₁; events = replicate event_room 0 } ≡ worldless w.all kind roster (length lines₀) event_room
