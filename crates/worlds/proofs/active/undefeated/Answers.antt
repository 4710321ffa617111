-- `active::undefeated`: the edges of whose defeaters none holds.
use Rattle.worlds.proofs.OverLaws.{tested-has}
use Rattle.worlds.proofs.active.undefeated.Goals as goal

pub returns : goal.returns
returns c = tested-has _ _ _ c.those.ensures.outside (λ i e. let h = c.those.ensures.inside i e in cc)
