use mathlib.Core.Path.{refl}
use Rattle.worlds.proofs.OverLaws.{changing_next, changing_at}
use Rattle.worlds.proofs.relate.chains.Goals as goal

pub loop-c-preserved : goal.loop-c-preserved
loop-c-preserved c = changing_next _ 0 (λ i x. refl) _ c.in-Some.ensures.steps c.chain.ensures c.loop-c.invariant

pub returns : goal.returns
returns c = record { at = changing_at _ 0 c.in-None.ensures.steps.0 c.loop-c.invariant }
