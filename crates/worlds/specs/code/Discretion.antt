-- Step 2 on masks, as the code goes.
use Rattle.std.specs.Prelude.{◌≡◌, Bool, true, false, ◌&&◌, not, List, map, ℕ, ◌<◌, ◌^◌, ltb}
use Rattle.sets.specs.paper.Sets.{has, one, union, only, subset, size, union_of, all_of, members, close_of}
use Rattle.worlds.specs.code.Over.{entry}

-- the ends of these edges that hold a person
unfoldable pub near : List ℕ → ℕ → ℕ → ℕ
near pairs edges p = union_of (λ e. only (has (entry pairs e) p) (entry pairs e)) (members edges)

-- everybody of m is led to everybody else of m
unfoldable pub clique_by : (ℕ → ℕ) → ℕ → Bool
clique_by lead m = all_of (λ q. subset m (union (one q) (lead q))) (members m)

unfoldable pub loose_by : (ℕ → ℕ) → ℕ → Bool
loose_by lead m = ltb 2 (size m) && not (clique_by lead m)

-- the component of a person by the pairs of these edges
abbrev pub joined_to : List ℕ → ℕ → ℕ → ℕ
joined_to pairs edges p = close_of (map (entry pairs) (members edges)) (one p)

-- a table that says of each person to whom the pairs lead
pub record Leads (lead pairs : List ℕ) (edges : ℕ) : Type 0 where
  pub few : edges < 2 ^ 64
  pub at : (p : ℕ) → entry lead p ≡ near pairs edges p

pub record Component (lead : List ℕ) (p r : ℕ) : Type 0 where
  pub at : (pairs : List ℕ) (edges : ℕ) → Leads lead pairs edges → r ≡ joined_to pairs edges p

-- the classes that pass a test, each at one person of it; of classes that everybody in them shares
pub record Heads (test : ℕ → Bool) (persons : ℕ) (class : ℕ → ℕ) (heads : ℕ) (parts : List ℕ) : Type 0 where
  pub sound : (p : ℕ) → has heads p ≡ true → (has persons p ≡ true) × (entry parts p ≡ class p) × (test (class p) ≡ true)
  pub complete : ((p q : ℕ) → has persons p ≡ true → has (class p) q ≡ true → (has persons q ≡ true) × (class q ≡ class p))
      → (p : ℕ) → has persons p ≡ true → test (class p) ≡ true → (h : ℕ) × (has heads h ≡ true) × (entry parts h ≡ class p)

pub record HeadsBy (lead : List ℕ) (persons heads : ℕ) (parts : List ℕ) : Type 0 where
  pub at : (pairs : List ℕ) (edges : ℕ) → Leads lead pairs edges → Heads (loose_by (entry lead)) persons (joined_to pairs edges) heads parts

-- a table of components in which only some heads got another one
pub record Renewed (heads fresh : ℕ) (before after : List ℕ) : Type 0 where
  pub among : (p : ℕ) → has fresh p ≡ true → has heads p ≡ true
  pub kept : (p : ℕ) → has fresh p ≡ false → entry after p ≡ entry before p

-- the components by the pairs of these edges that are at discretion: every person's, each at one of its persons
pub record LooseParts (pairs : List ℕ) (edges heads : ℕ) (parts : List ℕ) : Type 0 where
  pub sound : (p : ℕ) → has heads p ≡ true
      → (entry parts p ≡ joined_to pairs edges p) × (loose_by (near pairs edges) (entry parts p) ≡ true)
  pub complete : (p : ℕ) → loose_by (near pairs edges) (joined_to pairs edges p) ≡ true
      → (h : ℕ) × (has heads h ≡ true) × (entry parts h ≡ joined_to pairs edges p)
