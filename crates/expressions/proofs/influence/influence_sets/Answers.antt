-- `influence::influence_sets`: facts, then decisions.
use native.Mathlib.Omega.{arith}
use Rattle.expressions.specs.code.Influences.{sets_of}
use Rattle.expressions.proofs.InfluenceLaws.{influence-made}
use Rattle.expressions.proofs.influence.influence_sets.Goals as goal

pub returns : goal.returns
unfolding sets_of
returns c =
    influence-made c.args.reach c.args.variables c.min.result c.min.ensures (omega (arith, c.well_formed)) (omega (arith, c.well_formed)) (omega (arith, c.well_formed)) (omega arith) _ _ c.close_each.ensures c.close_each-2.ensures
