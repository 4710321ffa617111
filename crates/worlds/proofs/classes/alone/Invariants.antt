-- `classes::alone`: entry after entry, the person's mask within the set.
use mathlib.Core.Path.{◌≡◌}
use Prim.Native.Nat.{ℕ, ◌<◌}
use lib.ListN.{length}
use Rattle.sets.specs.paper.Sets.{has, one, only}
use Rattle.worlds.specs.code.Over.{entry}
use Rattle.worlds.proofs.classes.alone.Given as goal

abbrev pub invariant-loop-p : goal.invariant-loop-p
invariant-loop-p l = record { long : length l.classes ≡ 64; alone : (q : ℕ) → q < l.p → entry l.classes q ≡ only (has l.persons q) (one q) }
