-- `pools::no_pools`: all zero.
use mathlib.Core.Path.{refl}
use Rattle.billing.specs.Shown.{laid}
use Rattle.billing.proofs.pools.no_pools.Goals as goal

pub returns : goal.returns
unfolding laid
returns c = refl
