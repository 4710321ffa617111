-- The pools of an answered case, as statements about the bytes of its lines. Document 02, Ticket 1.
use Rattle.std.specs.Prelude.{◌≡◌, Bool, true, false, ◌&&◌, not, List, [], ◌↔◌, ◌≢◌, ℕ, ◌+◌, ◌<◌, length, get_or}
use Rattle.sets.specs.paper.Sets.{has, lowest, only, numbers, sum_of}
use Rattle.report.specs.paper.LineAt.{line_at, decoded}
use Rattle.billing.specs.paper.Pools.{UnitPool, pooled}
use Rattle.promises.specs.Partitioned.{person_at, kind_at, block_at, InAll}

-- unit i
abbrev pub unit_at : List UnitPool → ℕ → UnitPool
unit_at us i = get_or us i (record { block = 0; cents = 0; marked = false })

-- whether the person of line k is pooled: of kind 0, and not excluded
unfoldable pub pooled_at : List ℕ → ℕ → Bool
pooled_at s k = pooled (decoded (line_at s k))

-- over n lines, the amounts of those that pass a test
abbrev pub amounts_where : (ℕ → Bool) → List ℕ → ℕ → ℕ
amounts_where test amounts n = sum_of (λ k. only (test k) (get_or amounts k 0)) (numbers n 0)

-- of n lines and as many amounts: the units with their pools and marks, and what is unplaced
pub record Pooled (amounts s : List ℕ) (n : ℕ) (us : List UnitPool) (left : ℕ) : Type 0 where
  -- an amount for each line
  pub many : length amounts ≡ n
  -- "All pools and all unplaced amounts together equal the list's own sum"
  pub whole : sum_of (λ u. u.cents) us + left ≡ sum_of (λ c. c) amounts
  -- "each unit in order of its lowest person": no two have the same one
  pub order : (i j : ℕ) → i < j → j < length us → lowest (unit_at us i).block < lowest (unit_at us j).block
  -- a mask is listed exactly if it is some line's block
  pub units : (b : ℕ) → ((i : ℕ) × (i < length us) × ((unit_at us i).block ≡ b)) ↔ ((k : ℕ) × (k < n) × (block_at s k ≡ b) × (b ≢ 0))
  -- whoever has kind 0 or 2 is in a listed unit, which is the line's block
  pub placed : (k : ℕ) → k < n → InAll (kind_at s k) → (i : ℕ) × (i < length us) × ((unit_at us i).block ≡ block_at s k)
  -- a line's person is in a unit exactly if the line has the unit as block
  pub persons : (i k : ℕ) → i < length us → k < n → (has (unit_at us i).block (person_at s k) ≡ true) ↔ (block_at s k ≡ (unit_at us i).block)
  -- and everybody in a unit has a line
  pub everybody : (i p : ℕ) → i < length us → has (unit_at us i).block p ≡ true → (k : ℕ) × (k < n) × (person_at s k ≡ p)
  -- "A unit's pool is the sum over its persons of kind 0 whose role is not excluded", and over nobody else
  pub pool : (i : ℕ) → i < length us → (unit_at us i).cents ≡ amounts_where (λ k. pooled_at s k && has (unit_at us i).block (person_at s k)) amounts n
  -- "Persons of kind 2 are not pooled, and their unit, no other, is marked open"
  pub mark : (i : ℕ) → i < length us
      → ((unit_at us i).marked ≡ true) ↔ ((k : ℕ) × (k < n) × (has (unit_at us i).block (person_at s k) ≡ true) × (kind_at s k ≡ 2))
  -- "The amount of everyone who is not pooled, kind 2 included, is unplaced"
  pub unplaced : left ≡ amounts_where (λ k. not (pooled_at s k)) amounts n
  -- where nobody has kind 0 or 2 there are no units, and everything is unplaced
  pub none : ((k : ℕ) → k < n → InAll (kind_at s k) → ⊥) → (us ≡ []) × (left ≡ sum_of (λ c. c) amounts)
