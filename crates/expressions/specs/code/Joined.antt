-- The sets of joined persons as the code lists them.
use Rattle.std.specs.Prelude.{List, ℕ, take}
use Rattle.expressions.specs.declared.circle.Joins.{Joins}

unfoldable pub joins_of : Joins → List ℕ
joins_of j = take j.count j.sets
