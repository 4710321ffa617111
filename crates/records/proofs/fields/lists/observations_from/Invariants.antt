-- The observations of a boolean, copied.
use mathlib.Core.Path.{◌≡◌}
use Prim.Native.Nat.{ℕ, ◌-◌, ◌*◌, ◌≤◌}
use mathlib.Core.List.{List}
use lib.ListN.{length, get_or}
use Rattle.sets.specs.paper.Sets.{below}
use Rattle.records.specs.paper.Case as paper
use Rattle.records.specs.code.Readers.{bytes_from}
use Rattle.records.proofs.fields.lists.observations_from.Given as goal

abbrev mk : ℕ → ℕ → paper.Observation
mk v e = record { value = v; evidence = e }

abbrev observed : List ℕ → List ℕ → ℕ → paper.Observation
observed vs es i = mk (get_or vs i 0) (get_or es i 0)

abbrev pub invariant-loop-i : goal.invariant-loop-i
invariant-loop-i l =
    (l.i ≤ l.n) × (length l.values ≡ 16) × (length l.evidence ≡ 16) × (below l.i (observed l.values l.evidence) ≡ paper.observations_from (bytes_from l.s l.first (l.i * 2)))
