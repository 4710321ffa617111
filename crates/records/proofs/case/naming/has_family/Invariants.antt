-- A loop over the families, left at the first of the number.
use mathlib.Core.Path.{◌≡◌}
use Prim.Native.Nat.{◌≤◌, ◌-◌}
use lib.ListN.{length, drop}
use Rattle.sets.specs.paper.Sets.{any_of}
use Rattle.records.specs.code.Decoded.{families_of}
use Rattle.records.specs.code.CaseNamed.{same_family}
use Rattle.records.proofs.case.naming.has_family.Given as goal

abbrev pub invariant-loop-i : goal.invariant-loop-i
invariant-loop-i l =
    (l.i ≤ l.count) × (l.count ≤ 16) × (l.count ≡ length (families_of l.families)) × (any_of (same_family l.number) (drop l.i (families_of l.families)) ≡ any_of (same_family l.number) (families_of l.families))
