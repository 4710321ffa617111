-- `touch::touches`: after i facts the array holds whom the first i touch.
use mathlib.Core.Path.{◌≡◌}
use lib.ListN.{length}
use Rattle.sets.specs.paper.Sets.{below}
use Rattle.records.specs.code.Decoded.{facts_of}
use Rattle.expressions.specs.code.Coded.{Holds}
use Rattle.expressions.specs.code.Listed.{touch_by}
use Rattle.expressions.proofs.touch.touches.Given as goal

abbrev pub invariant-loop-i : goal.invariant-loop-i
invariant-loop-i l =
    (length l.out ≡ 64) × Holds 0 l.out (below l.i (touch_by l.uses l.persons l.constraints l.roster l.bound (facts_of l.facts)))
