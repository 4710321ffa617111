-- `draft::accepted`: number 0.
use mathlib.Core.Path.{ap}
use Rattle.records.specs.paper.Fields.{fine}
use Rattle.records.specs.code.PlanRead.{plan_read_of}
use Rattle.spreadsheet.proofs.draft.accepted.Goals as goal

pub returns : goal.returns
unfolding plan_read_of
returns c = ap fine c.drafted.ensures
