use mathlib.Core.Path.{ap, ◌∙◌}
use Rattle.sets.specs.paper.Sets.{union}
use Rattle.worlds.proofs.RelateLaws.{chain-none, chain_next}
use Rattle.worlds.proofs.relate.chain.Goals as goal

pub loop-step-init : goal.loop-step-init
loop-step-init c = chain-none _ _

pub loop-step-preserved : goal.loop-step-preserved
unfolding union
loop-step-preserved c = ap (union c.loop-step.m) c.gather-m.ensures ∙ chain_next _ _ c.loop-step._step _ c.loop-step.invariant
