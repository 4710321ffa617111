-- `discretion::heads`: what is found while some are left is the whole at the end; the table changes at fresh heads alone.
use mathlib.Core.Path.{◌≡◌}
use mathlib.Core.List.{List}
use Prim.Native.Nat.{ℕ, ◌<◌, ◌^◌}
use lib.ListN.{length}
use Rattle.worlds.specs.code.Over.{entry}
use Rattle.worlds.specs.code.Discretion.{loose_by, joined_to, Leads, Renewed}
use Rattle.worlds.proofs.LooseLaws.{Found}
use Rattle.worlds.proofs.discretion.heads.Given as goal

abbrev pub invariant-loop-m : goal.invariant-loop-m
invariant-loop-m l =
    (l.m < 2 ^ 64) × (length l.parts ≡ 64) × Renewed l.found l.fresh l.initial.parts l.parts
    × ((pairs : List ℕ) (edges : ℕ) → Leads l.lead pairs edges → Found (loose_by (entry l.lead)) l.persons (joined_to pairs edges) l.m l.found l.parts)

abbrev pub decreases-loop-m : goal.decreases-loop-m
decreases-loop-m l = l.m
