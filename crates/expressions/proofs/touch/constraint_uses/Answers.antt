-- `touch::constraint_uses`: the constraints in use, as a list of numbers.
use mathlib.Core.Path.{ap, ◌∙◌}
use native.Mathlib.Omega.{arith}
use Rattle.sets.specs.paper.Sets.{union_of}
use Rattle.records.specs.code.Decoded.{numbers_of}
use Rattle.expressions.specs.code.Listed.{used_at}
use Rattle.records.proofs.UsedLaws.{used_take}
use Rattle.expressions.proofs.touch.constraint_uses.Goals as goal

pub returns : goal.returns
unfolding numbers_of
returns c =
    let cs = c.args.constraints in
    c.used_by.ensures ∙ ap (union_of (used_at c.args.nodes.now)) (used_take cs.items cs.count 16 c.min.result (omega (arith, c.well_formed)) c.min.ensures)
