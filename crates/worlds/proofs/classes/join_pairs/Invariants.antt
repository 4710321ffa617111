-- `classes::join_pairs`: what the edges left make of the table as it is, all the edges make of the one given.
use mathlib.Core.List.{List, map}
use Prim.Native.Nat.{ℕ, ◌<◌, ◌^◌}
use Rattle.sets.specs.paper.Sets.{members}
use Rattle.worlds.specs.code.Classes.{Joins, joinable}
use Rattle.worlds.proofs.classes.join_pairs.Given as goal

abbrev pub invariant-loop-e : goal.invariant-loop-e
invariant-loop-e l =
    (last : List ℕ) → Joins (map (joinable l.pairs l.within) (members l.e-iterator.0)) l.classes last → Joins (map (joinable l.pairs l.within) (members l.edges)) l.initial.classes last
