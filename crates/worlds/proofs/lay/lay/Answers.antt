-- `lay::lay`: one store.
use native.Mathlib.Omega.{arith}
use Rattle.worlds.proofs.LayLaws.{laid_at}
use Rattle.worlds.proofs.lay.lay.Goals as goal

pub returns : goal.returns
returns c = laid_at c.args.t.now c.args.k c.args.i c.args.value (omega arith) (omega arith)
