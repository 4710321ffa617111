-- The unresolved decisions as the code lists them.
use Rattle.std.specs.Prelude.{List, ℕ, ◌<◌, get_or}
use Rattle.sets.specs.paper.Sets.{below}
use Rattle.expressions.specs.paper.Influence.{Open}
use Rattle.expressions.specs.declared.decisions.Undecided.{Undecided}

abbrev pub pair_of : ℕ → ℕ → Open
pair_of c e = record { cut = c; edge = e }

abbrev pub open_at : List ℕ → List ℕ → ℕ → Open
open_at cuts edges i = pair_of (get_or cuts i 0) (get_or edges i 0)

unfoldable pub opens_of : Undecided → List Open
opens_of u = below u.count (open_at u.cuts u.edges)

-- the cut and the edge are among these
abbrev pub Named : ℕ → ℕ → Open → Type 0
Named cuts edges o = (o.cut < cuts) × (o.edge < edges)
