-- `relate::direct_precedence`: after i cuts the first i entries stand.
use mathlib.Core.Path.{◌≡◌}
use Prim.Native.Nat.{ℕ, ◌<◌}
use lib.ListN.{length, get_or}
use Rattle.sets.specs.paper.Sets.{set_of}
use Rattle.records.specs.paper.Plan.{Cut}
use Rattle.records.specs.code.Decoded.{cuts_of}
use Rattle.worlds.specs.code.Over.{entry}
use Rattle.worlds.proofs.relate.direct_precedence.Given as goal

abbrev pub invariant-loop-i : goal.invariant-loop-i
invariant-loop-i l = (length l.direct ≡ 64) × ((j : ℕ) → j < l.i → (d : Cut) → entry l.direct j ≡ set_of (get_or (cuts_of l.cuts) j d).precedes)
