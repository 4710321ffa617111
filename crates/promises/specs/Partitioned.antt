-- The lines in a buffer, as statements about bytes: `Partitioned` of the lines that are counted, `Apart` of the whole buffer. Document 01: "persons
-- rising", and "Proved: each roster person is marked, or is in just one block whose members all report it". A line without block has block 0.
use Rattle.std.specs.Prelude.{◌≡◌, true, List, ◌⊎◌, ◌↔◌, ◌≢◌, ℕ, ◌≤◌, ◌<◌}
use Rattle.sets.specs.paper.Sets.{has, size, disjoint}
use Rattle.report.specs.paper.LineAt.{line_at, decoded}

-- ---- what line k says

unfoldable pub person_at : List ℕ → ℕ → ℕ
person_at s k = (decoded (line_at s k)).person

unfoldable pub kind_at : List ℕ → ℕ → ℕ
kind_at s k = (decoded (line_at s k)).kind

unfoldable pub role_at : List ℕ → ℕ → ℕ
role_at s k = (decoded (line_at s k)).role

-- 0: none
unfoldable pub block_at : List ℕ → ℕ → ℕ
block_at s k = (decoded (line_at s k)).block

-- ---- of all lines

-- of any two lines the blocks are equal or disjoint, and a line's block holds its person
pub record Apart (s : List ℕ) : Type 0 where
  pub any_two : (i j : ℕ) → (block_at s i ≡ block_at s j) ⊎ (disjoint (block_at s i) (block_at s j) ≡ true)
  pub own : (k : ℕ) → (block_at s k ≡ 0) ⊎ (has (block_at s k) (person_at s k) ≡ true)

-- n lines, of a roster's persons; `Blocked` tells the kinds that have a block
pub record Partitioned (Blocked : ℕ → Type 0) (roster : ℕ) (s : List ℕ) (n : ℕ) : Type 0 where
  -- there is a line for each roster person, and no other
  pub count : n ≡ size roster
  pub listed : (k : ℕ) → k < n → has roster (person_at s k) ≡ true
  pub everybody : (p : ℕ) → has roster p ≡ true → (k : ℕ) × (k < n) × (person_at s k ≡ p)
  -- a later line is of a higher person
  pub rising : (i j : ℕ) → i < j → j < n → person_at s i < person_at s j
  -- no other kind, and no other role, than document 01 names
  pub kind : (k : ℕ) → k < n → kind_at s k ≤ 6
  pub role : (k : ℕ) → k < n → role_at s k ≤ 3
  -- a line has a block exactly if its kind is one of those
  pub kinds : (k : ℕ) → k < n → Blocked (kind_at s k) ↔ (block_at s k ≢ 0)
  -- the block holds the line's person
  pub own : (k : ℕ) → k < n → block_at s k ≢ 0 → has (block_at s k) (person_at s k) ≡ true
  -- everybody in the block has a line, of such a kind and with the same block
  pub members : (k : ℕ) → k < n → (q : ℕ) → has (block_at s k) q ≡ true
      → (j : ℕ) × (j < n) × (person_at s j ≡ q) × Blocked (kind_at s j) × (block_at s j ≡ block_at s k)
  -- different blocks have nobody in common
  pub any_two : (i j : ℕ) → i < n → j < n → (block_at s i ≡ block_at s j) ⊎ (disjoint (block_at s i) (block_at s j) ≡ true)

-- in a shown world kind 0 has a block; over all worlds 0, and 2, where only the role differs between them
abbrev pub InOne : ℕ → Type 0
InOne kind = kind ≡ 0

abbrev pub InAll : ℕ → Type 0
InAll kind = (kind ≡ 0) ⊎ (kind ≡ 2)
