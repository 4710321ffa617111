-- What it is to be no household, as statements about the bytes of an answered case's lines. Document 02, Ticket 3.
use Rattle.std.specs.Prelude.{◌≡◌, true, List, ◌≢◌, ℕ, ◌<◌}
use Rattle.sets.specs.paper.Sets.{has}
use Rattle.promises.specs.Partitioned.{person_at, kind_at, role_at, block_at}

-- a unit of n lines: some line's block
abbrev pub IsUnit : List ℕ → ℕ → ℕ → Type 0
IsUnit s n b = (k : ℕ) × (k < n) × (block_at s k ≡ b) × (b ≢ 0)

-- "persons of kind 0 are all excluded, with no person of kind 2", over the lines of a block's persons
abbrev pub DrawsNoService : List ℕ → ℕ → ℕ → Type 0
DrawsNoService s n b = (k : ℕ) → k < n → has b (person_at s k) ≡ true → (kind_at s k ≡ 0 → role_at s k ≡ 2) × (kind_at s k ≢ 2)

-- everybody in the block has a line, of kind 0 and excluded
abbrev pub EverybodyExcluded : List ℕ → ℕ → ℕ → Type 0
EverybodyExcluded s n b = (p : ℕ) → has b p ≡ true → (k : ℕ) × (k < n) × (person_at s k ≡ p) × (kind_at s k ≡ 0) × (role_at s k ≡ 2)
