-- Units. Document 01: "Units are the different blocks of lines."
use Rattle.std.specs.Prelude.{◌||◌, cond, List, [], ◌∷◌, ◌++◌, ℕ, eqb}
use Rattle.sets.specs.paper.Sets.{any_of}
use Rattle.report.specs.paper.Line.{Line}

-- a block that is not among the units yet joins them; 0 is no block
abbrev pub join_unit : List ℕ → ℕ → List ℕ
join_unit us b = cond (eqb b 0 || any_of (eqb b) us) us (us ++ (b ∷ []))

unfoldable pub units_with : List ℕ → List Line → List ℕ
units_with us [] = us
units_with us (l ∷ ls) = units_with (join_unit us l.block) ls

-- each block once, in the order of the first line that has it: as lines rise by person, in the order of lowest persons
unfoldable pub units : List Line → List ℕ
units ls = units_with [] ls
