-- `pairs::count_pairs`: the sizes of the sets passed, at most 64 each.
use mathlib.Core.Path.{◌≡◌}
use Prim.Native.Nat.{◌*◌, ◌≤◌}
use Rattle.worlds.specs.code.Over.{entry}
use Rattle.report.specs.code.EventBytes.{sizes}
use Rattle.report.proofs.pairs.count_pairs.Given as goal

abbrev pub invariant-loop-i : goal.invariant-loop-i
invariant-loop-i l = (l.count ≡ sizes l.i (entry l.sets)) × (l.count ≤ 64 * l.i)
