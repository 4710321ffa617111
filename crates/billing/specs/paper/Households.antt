-- What counts as a household in the total. Document 02, Ticket 3: "a block whose persons of kind 0 are all excluded, with no person of kind 2, draws
-- no service and is no household".
use Rattle.std.specs.Prelude.{Bool, ◌&&◌, ◌||◌, List, ℕ, eqb}
use Rattle.sets.specs.paper.Sets.{any_of, count_of}
use Rattle.report.specs.paper.Line.{Line}
use Rattle.report.specs.paper.Units.{units}
use Rattle.billing.specs.paper.Pools.{pooled_as}

-- that sentence turned round: kind and role of a person who makes the block a household, "of kind 2", or "of kind 0" and not "excluded"
abbrev pub makes_household : ℕ → ℕ → Bool
makes_household kind role = eqb kind 2 || pooled_as kind role

-- some line with the block is so. "all excluded" is never said of nobody: whoever has a block has kind 0 or 2 (`answered_partition`), so a block without
-- persons of kind 0 has one of kind 2
unfoldable pub household : List Line → ℕ → Bool
household ls b = any_of (λ l. eqb l.block b && makes_household l.kind l.role) ls

-- "The last row of the lister counts the other blocks only": units that are households
unfoldable pub household_count : List Line → ℕ
household_count ls = count_of (household ls) (units ls)
