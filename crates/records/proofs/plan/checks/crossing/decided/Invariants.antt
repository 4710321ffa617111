-- A loop over the edges of the decisions, left at the one that is looked for.
use mathlib.Core.Path.{◌≡◌}
use mathlib.Core.Bool.{Bool, not}
use Prim.Native.Nat.{ℕ, ◌≤◌, ◌<◌, ◌-◌}
use lib.Dec.{eqb}
use lib.ListN.{drop}
use Rattle.sets.specs.paper.Sets.{all_of}
use Rattle.records.proofs.NamingLaws.{entries}
use Rattle.records.proofs.plan.checks.crossing.decided.Given as goal

abbrev other : ℕ → ℕ → Bool
other edge x = not (eqb x edge)

abbrev pub invariant-loop-i : goal.invariant-loop-i
invariant-loop-i l = (l.i ≤ l.count) × (l.count < 256) × (all_of (other l.edge) (drop l.i (entries l.list l.count)) ≡ all_of (other l.edge) (entries l.list l.count))
