-- A loop over the numbers, left at the first that is not under the bound.
use mathlib.Core.Path.{◌≡◌}
use Prim.Native.Nat.{◌≤◌, ◌-◌}
use lib.ListN.{take, drop}
use Rattle.records.specs.code.Named.{all_under}
use Rattle.records.proofs.plan.checks.naming.all_under.Given as goal

abbrev pub invariant-loop-i : goal.invariant-loop-i
invariant-loop-i l = (l.i ≤ l.count) × (l.count ≤ 16) × (all_under l.bound (drop l.i (take l.count l.items)) ≡ all_under l.bound (take l.count l.items))
