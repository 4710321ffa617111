-- `uses::node_uses`: after i nodes the array holds the facts of the first i.
use mathlib.Core.Path.{◌≡◌}
use mathlib.Core.List.{[]}
use lib.ListN.{length, take}
use Rattle.records.specs.code.Decoded.{nodes_of}
use Rattle.expressions.specs.paper.Nodes.{uses_from}
use Rattle.expressions.specs.code.Coded.{Holds}
use Rattle.expressions.proofs.uses.node_uses.Given as goal

abbrev pub invariant-loop-i : goal.invariant-loop-i
invariant-loop-i l = (length l.out ≡ 256) × Holds 0 l.out (uses_from (take l.i (nodes_of l.nodes)) [])
