-- `discretion::is_edge_clique`: whether those left are led to everybody is whether all are.
use mathlib.Core.Path.{◌≡◌}
use mathlib.Core.Bool.{Bool}
use mathlib.Core.List.{List}
use Prim.Native.Nat.{ℕ, ◌<◌, ◌^◌}
use Rattle.sets.specs.paper.Sets.{one, union, subset, all_of, members}
use Rattle.worlds.specs.code.Over.{entry}
use Rattle.worlds.specs.code.Discretion.{clique_by}
use Rattle.worlds.proofs.discretion.is_edge_clique.Given as goal

-- q is led to everybody of the set
abbrev led : List ℕ → ℕ → ℕ → Bool
led lead set q = subset set (union (one q) (entry lead q))

abbrev pub invariant-loop-p : goal.invariant-loop-p
invariant-loop-p l = (l.p-iterator.0 < 2 ^ 64) × (all_of (led l.lead l.set) (members l.p-iterator.0) ≡ clique_by (entry l.lead) l.set)
