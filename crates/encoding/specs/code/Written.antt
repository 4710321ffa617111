-- The parts of records that the code puts, one function each.
use Rattle.std.specs.Prelude.{Bool, cond, List, [], ◌∷◌, ℕ, ◌+◌, ◌*◌, ◌≤◌, length}
use Rattle.records.specs.paper.Plan.{Decision}
use Rattle.records.specs.declared.plan.Cut.{Cut}
use Rattle.encoding.specs.paper.Encoded.{some, decision_bytes}

-- a list of numbers as a field, or nothing where it has none
abbrev pub list_bytes : List ℕ → List ℕ
list_bytes v = cond (some v) (length v ∷ v) []

-- a bit before the bits above it
abbrev pub bit : Bool → ℕ → ℕ
bit b n = cond b 1 0 + 2 * n

-- pairs as a field, or nothing where there are none
abbrev pub pair_bytes : List Decision → List ℕ
pair_bytes ds = cond (some ds) (length ds ∷ decision_bytes ds) []

-- a cut of the code whose decisions stand in its arrays
abbrev pub Few : Cut → Type 0
Few c = c.decisions.count ≤ 64
