-- `cite::cite_one`: what is cited is added at the lowest person of the block, where there is one.
use mathlib.Core.Path.{refl}
use native.Mathlib.Omega.{arith}
use Rattle.sets.specs.paper.Sets.{union}
use Rattle.worlds.proofs.CiteTurns.{one_added, one_none}
use Rattle.worlds.proofs.cite.cite_one.Goals as goal

pub returns-then-b-ne0 : goal.returns-then-b-ne0
unfolding union
returns-then-b-ne0 c =
    let a = c.args in
    one_added a.blocks.now a.cited.now a.p a.what c.low.result _ c.told-cited c.low.ensures refl c.if-b-ne0.true

pub returns-else-b-ne0 : goal.returns-else-b-ne0
returns-else-b-ne0 c =
    let a = c.args in
    one_none a.blocks.now a.cited.now a.p a.what c.if-b-ne0.false
