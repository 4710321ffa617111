-- `sets::persons::person_masks`: the sheet, entry by entry, is the list of the powers of two.
use mathlib.Core.Path.{refl}
use Rattle.sets.specs.paper.Sets.{one, below, numbers}
use Rattle.sets.proofs.persons.person_masks.Goals as goal

pub returns : goal.returns
unfolding below numbers one
returns c = refl
