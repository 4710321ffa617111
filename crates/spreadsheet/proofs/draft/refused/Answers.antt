-- `draft::refused`: 16 is not 0.
use borrow.Author.Rules.{rules}
use Rattle.records.specs.code.PlanRead.{plan_read_of}
use Rattle.spreadsheet.proofs.draft.refused.Goals as goal

pub returns : goal.returns
unfolding plan_read_of
returns c = search rules
