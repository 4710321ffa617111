-- `active::active_rules`: what is known with what is found of what is asked.
use Rattle.sets.specs.paper.Sets.{union}
use Rattle.worlds.proofs.ActiveLaws.{active_by}
use Rattle.worlds.proofs.active.active_rules.Goals as goal

pub returns : goal.returns
unfolding union
returns c =
    active_by _ _ _ _ _ _ _ _ _ _ _ _ (record { at = c.holding-edges.ensures }) c.undefeated.ensures (record { at = c.holding.ensures })
    (record { at = c.holding-2.ensures }) (record { at = c.holding-3.ensures }) (record { at = c.holding-4.ensures })
