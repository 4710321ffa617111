-- `cuts::note_clashes`: with what is to be noted at the cuts left, the table is the one asked for.
use mathlib.Core.Path.{◌≡◌}
use Prim.Native.Nat.{ℕ, ◌<◌, ◌^◌}
use lib.ListN.{length}
use Rattle.sets.specs.paper.Sets.{meet}
use Rattle.worlds.specs.code.Tables.{row}
use Rattle.worlds.proofs.NoteLaws.{noting}
use Rattle.worlds.proofs.cuts.note_clashes.Given as goal

abbrev pub invariant-loop-c : goal.invariant-loop-c
invariant-loop-c l =
    (l.c-iterator.0 < 2 ^ 64) × (length l.noted ≡ 64) × ((i : ℕ) → noting (λ c. meet (row l.t 6 c) l.cuts) l.c-iterator.0 l.noted i ≡ noting (λ c. meet (row l.t 6 c) l.cuts) l.cuts l.initial.noted i)
