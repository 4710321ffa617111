-- `pools::pools_of`: the units with their pools and marks, one after another.
use mathlib.Core.Path.{◌≡◌}
use mathlib.Core.Bool.{false}
use Prim.Native.Nat.{◌≤◌}
use Rattle.report.specs.paper.LineAt.{lines_from}
use Rattle.report.specs.paper.Units.{units as units_of}
use Rattle.billing.specs.paper.Pools.{shares, pool_of, mark_of}
use Rattle.billing.proofs.LaidLaws.{made_of}
use Rattle.billing.proofs.pools.pools_of.Given as goal

abbrev pub invariant-loop-i : goal.invariant-loop-i
invariant-loop-i l =
    let ls = lines_from l.lines 0 l.n in
    (l.i ≤ l.units.count) × (l.blocks ≡ made_of 0 (λ b. b) (units_of ls) l.i) × (l.cents ≡ made_of 0 (pool_of (shares ls l.amounts)) (units_of ls) l.i) × (l.marks ≡ made_of false (mark_of ls) (units_of ls) l.i)
