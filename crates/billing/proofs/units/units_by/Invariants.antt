-- `units::units_by`: with the blocks of the lines left joined, the units are found.
use mathlib.Core.Path.{◌≡◌}
use mathlib.Core.List.{map}
use Prim.Native.Nat.{◌≤◌}
use lib.ListN.{length, take}
use Rattle.report.specs.paper.LineAt.{lines_from}
use Rattle.report.specs.paper.Units.{units}
use Rattle.billing.specs.Shown.{with_block}
use Rattle.billing.proofs.UnitLaws.{units_from}
use Rattle.billing.proofs.units.units_by.Given as goal

abbrev pub invariant-loop-k : goal.invariant-loop-k
invariant-loop-k g l =
    (l.found.count ≤ l.k) × (length l.found.blocks ≡ 64)
    × (units_from g.block l.lines (take l.found.count l.found.blocks) l.k l.n ≡ units (map (with_block g.block) (lines_from l.lines 0 l.n)))
