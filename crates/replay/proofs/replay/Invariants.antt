-- `replay`: the buffers keep their lengths, and the turns run out.
use mathlib.Core.Path.{◌≡◌}
use lib.ListN.{length}
use Rattle.replay.proofs.replay.Given as goal

abbrev pub invariant-loop-turns : goal.invariant-loop-turns
invariant-loop-turns l = (length l.store ≡ length l.initial.store) × (length l.lines ≡ length l.initial.lines) × (length l.events ≡ length l.initial.events)

abbrev pub decreases-loop-turns : goal.decreases-loop-turns
decreases-loop-turns l = l.turns
