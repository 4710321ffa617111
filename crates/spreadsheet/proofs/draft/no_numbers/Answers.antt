-- `draft::no_numbers`: none.
use mathlib.Core.Path.{refl}
use Rattle.records.specs.code.Decoded.{numbers_of}
use Rattle.spreadsheet.proofs.draft.no_numbers.Goals as goal

pub returns : goal.returns
unfolding numbers_of
returns c = refl
