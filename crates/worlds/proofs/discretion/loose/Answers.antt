-- `discretion::loose`: the ones counted are the persons of the set.
use mathlib.Core.Path.{◌∙◌}
use borrow.Author.Tests.{le-ltb}
use Rattle.worlds.proofs.LooseLaws.{loose-many, loose-few}
use Rattle.worlds.proofs.discretion.loose.Goals as goal

pub returns-then-set-gt2 : goal.returns-then-set-gt2
returns-then-set-gt2 c = loose-many _ _ _ c.ranges.set.fits c.if-set-gt2.true c.is_edge_clique.ensures

pub returns-else-set-gt2 : goal.returns-else-set-gt2
returns-else-set-gt2 c = le-ltb 2 _ c.if-set-gt2.false ∙ loose-few _ _ c.ranges.set.fits c.if-set-gt2.false
