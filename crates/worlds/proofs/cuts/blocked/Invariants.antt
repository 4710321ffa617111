-- `cuts::blocked`: with what the cuts left bring, the twins found and the table are those asked for.
use mathlib.Core.Path.{◌≡◌}
use Prim.Native.Nat.{ℕ, ◌<◌, ◌^◌}
use lib.ListN.{length}
use Rattle.sets.specs.paper.Sets.{union, members}
use Rattle.worlds.specs.code.Cuts.{blockers, blocked_twins}
use Rattle.worlds.proofs.NoteLaws.{noting}
use Rattle.worlds.proofs.cuts.blocked.Given as goal

abbrev pub invariant-loop-c : goal.invariant-loop-c
invariant-loop-c l =
    (l.c-iterator.0 < 2 ^ 64) × (length l.noted ≡ 64)
    × (union l.found (blocked_twins l.t l.frozen l.decisions (members l.c-iterator.0)) ≡ blocked_twins l.t l.frozen l.decisions (members l.standing))
    × ((i : ℕ) → noting (blockers l.t l.frozen l.decisions) l.c-iterator.0 l.noted i ≡ noting (blockers l.t l.frozen l.decisions) l.standing l.initial.noted i)
