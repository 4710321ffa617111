-- `variables::among`: after so many of the order, the numbers of the variables among them.
use Prim.Native.Nat.{◌≤◌}
use mathlib.Core.Path.{◌≡◌}
use mathlib.Core.List.{map}
use lib.ListN.{length, take}
use Rattle.expressions.specs.code.Codes.{bound_of}
use Rattle.expressions.specs.code.Slots.{slot_of}
use Rattle.probes.specs.Entries.{variable_codes}
use Rattle.probes.specs.Binds.{codes_of}
use Rattle.probes.proofs.variables.among.Given as goal

abbrev pub invariant-loop-item : goal.invariant-loop-item
invariant-loop-item l =
    (l.out.count ≤ l.item-index) × (l.out.count ≡ length (codes_of l.out)) × (codes_of l.out ≡ variable_codes (map bound_of l.codes) (map slot_of (take l.item-index l.item-items)))
