-- `bind::nothing`: zeros at every fact, no sets, no order, and the refusal.
use mathlib.Core.Path.{refl, ap}
use Rattle.expressions.specs.code.Codes.{bound_of}
use Rattle.expressions.specs.code.Influences.{sets_of}
use Rattle.expressions.specs.code.Slots.{slots_of}
use Rattle.probes.proofs.Entering.{zeros}
use Rattle.probes.proofs.bind.nothing.Goals as goal

pub returns : goal.returns
unfolding bound_of sets_of slots_of
returns c = record { codes = λ f. ap bound_of (zeros 64 f); influence = refl; order = refl; count = refl; refusal = (refl, refl) }
