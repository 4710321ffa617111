-- `pools::tell_pools`: the seven numbers, and two behind them.
use mathlib.Core.Path.{ap}
use mathlib.Core.List.{List, [], ◌∷◌}
use Prim.Native.Nat.{ℕ}
use lib.ListN.{get_or}
use Rattle.exports.specs.Handed.{numbers}
use Rattle.exports.proofs.pools.tell_pools.Goals as goal

pub returns : goal.returns
unfolding numbers
returns c =
    let a = c.args in
    let t = c.tell-result.ensures in (
      t.0,
      ap (λ (s : List ℕ). get_or s 0 0 ∷ get_or s 1 0 ∷ get_or s 2 0 ∷ get_or s 3 0 ∷ get_or s 4 0 ∷ get_or s 5 0 ∷ get_or s 6 0 ∷ a.count ∷ a.unplaced ∷ []) t.1,
    )
