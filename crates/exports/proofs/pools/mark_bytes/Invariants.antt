-- `pools::mark_bytes`: a byte for each mark, one after another.
use mathlib.Core.Path.{◌≡◌}
use Prim.Native.Nat.{◌≤◌, ◌-◌}
use Rattle.sets.specs.paper.Sets.{only}
use Rattle.billing.proofs.LaidLaws.{made_of}
use Rattle.exports.proofs.pools.mark_bytes.Given as goal

abbrev pub invariant-loop-i : goal.invariant-loop-i
invariant-loop-i l = (l.i ≤ 64) × (l.bytes ≡ made_of 0 (λ b. only b 1) l.marks l.i)
