-- `feed_all`: the chunk is read within its length, the buffers keep theirs, and the loop ends.
use mathlib.Core.Path.{◌≡◌}
use Prim.Native.Nat.{◌≤◌, ◌-◌}
use lib.ListN.{length}
use Rattle.replay.proofs.feed_all.Given as goal

abbrev pub invariant-loop-i : goal.invariant-loop-i
invariant-loop-i l = (l.i ≤ length l.chunk) × (length l.store ≡ length l.initial.store) × (length l.lines ≡ length l.initial.lines) × (length l.events ≡ length l.initial.events)
