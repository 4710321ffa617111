-- A loop over the edges of the decisions, left at the first that is no edge.
use Rattle.records.specs.code.Named.{all_under}
use mathlib.Core.Path.{◌≡◌}
use Prim.Native.Nat.{◌≤◌, ◌<◌, ◌-◌}
use lib.ListN.{drop}
use Rattle.records.proofs.NamingLaws.{entries}
use Rattle.records.proofs.plan.checks.naming.all_decide.Given as goal

abbrev pub invariant-loop-i : goal.invariant-loop-i
invariant-loop-i l = (l.i ≤ l.count) × (l.count < 256) × (all_under l.edges (drop l.i (entries l.list l.count)) ≡ all_under l.edges (entries l.list l.count))
