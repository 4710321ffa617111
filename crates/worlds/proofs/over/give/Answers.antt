use mathlib.Core.Path.{refl}
use Rattle.sets.specs.paper.Sets.{union}
use Rattle.sets.proofs.UnionLaws.{union_twice}
use Rattle.worlds.proofs.OverLaws.{changing_next, changing_end}
use Rattle.worlds.proofs.over.give.Goals as goal

pub loop-i-preserved : goal.loop-i-preserved
unfolding union
loop-i-preserved c = changing_next _ 0 (λ i x. union_twice x c.args.more) _ c.in-Some.ensures.steps refl c.loop-i.invariant

pub returns : goal.returns
returns c = record { at = changing_end _ 0 c.in-None.ensures.steps.0 c.loop-i.invariant }
