-- `decisions::touches_over`: after i decisions the array holds whom the first i touch.
use mathlib.Core.Path.{◌≡◌}
use lib.ListN.{length}
use Rattle.sets.specs.paper.Sets.{below}
use Rattle.records.specs.paper.Plan.{Plan}
use Rattle.records.specs.code.Decoded.{cuts_of, edges_of}
use Rattle.expressions.specs.paper.Influence.{open_touch}
use Rattle.expressions.specs.code.Coded.{Holds}
use Rattle.expressions.specs.code.Undecided.{open_at}
use Rattle.expressions.proofs.decisions.touches_over.Given as goal

abbrev pub invariant-loop-i : goal.invariant-loop-i
invariant-loop-i l =
    (length l.out ≡ 16) × ((P : Plan) → P.cuts ≡ cuts_of l.cuts → P.edges ≡ edges_of l.edges → Holds 0 l.out (below l.i (λ k. open_touch P (open_at l.found.cuts l.found.edges k))))
