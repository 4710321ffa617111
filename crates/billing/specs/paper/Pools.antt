-- Income pooled by unit. Document 02, Ticket 1.
use Rattle.std.specs.Prelude.{Bool, ◌&&◌, not, List, [], ◌∷◌, map, ℕ, eqb}
use Rattle.sets.specs.paper.Sets.{only, any_of, sum_of}
use Rattle.report.specs.paper.Line.{Line}
use Rattle.report.specs.paper.Units.{units}

-- a roster person's line and amount: "one unsigned 32-bit number of cents for each roster person in rising order", as the lines stand
pub record Share : Type 0 where
  pub line : Line
  pub cents : ℕ

unfoldable pub shares : List Line → List ℕ → List Share
shares [] cs = []
shares (l ∷ ls) [] = []
shares (l ∷ ls) (c ∷ cs) = record { line = l; cents = c } ∷ shares ls cs

-- "of kind 0 whose role is not excluded"
abbrev pub pooled_as : ℕ → ℕ → Bool
pooled_as kind role = eqb kind 0 && not (eqb role 2)

abbrev pub pooled : Line → Bool
pooled l = pooled_as l.kind l.role

-- "A unit's pool is the sum over its persons" of that sort: those whose lines have the unit as block
unfoldable pub pool_of : List Share → ℕ → ℕ
pool_of xs b = sum_of (λ x. only (pooled x.line && eqb x.line.block b) x.cents) xs

-- "Persons of kind 2 are not pooled, and their unit, no other, is marked open"
unfoldable pub mark_of : List Line → ℕ → Bool
mark_of ls b = any_of (λ l. eqb l.kind 2 && eqb l.block b) ls

-- "The amount of everyone who is not pooled, kind 2 included, is unplaced"
unfoldable pub unplaced : List Share → ℕ
unplaced xs = sum_of (λ x. only (not (pooled x.line)) x.cents) xs

pub record UnitPool : Type 0 where
  pub block : ℕ
  pub cents : ℕ
  pub marked : Bool

abbrev pub unit_pool : List Line → List ℕ → ℕ → UnitPool
unit_pool ls cs b = record { block = b; cents = pool_of (shares ls cs) b; marked = mark_of ls b }

-- "The result gives each unit in order of its lowest person, with pool and mark"
unfoldable pub pools : List Line → List ℕ → List UnitPool
pools ls cs = map (unit_pool ls cs) (units ls)
