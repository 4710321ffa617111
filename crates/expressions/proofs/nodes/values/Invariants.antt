-- `nodes::values`: after i nodes the array holds the values of the first i.
use mathlib.Core.Path.{◌≡◌}
use mathlib.Core.Bool.{false}
use mathlib.Core.List.{[]}
use lib.ListN.{length, take}
use Rattle.records.specs.code.Decoded.{nodes_of}
use Rattle.expressions.specs.paper.Nodes.{values_from}
use Rattle.expressions.specs.code.Coded.{Holds}
use Rattle.expressions.proofs.nodes.values.Given as goal

abbrev pub invariant-loop-i : goal.invariant-loop-i
invariant-loop-i l = (length l.out ≡ 256) × Holds false l.out (values_from l.facts (take l.i (nodes_of l.nodes)) [])
