-- Classes of persons in a table: at each person all who are joined to that person.
use Rattle.std.specs.Prelude.{◌≡◌, true, false, List, ◌++◌, ℕ, ◌<◌, ◌^◌}
use Rattle.sets.specs.paper.Sets.{has, one, only, subset, all_of, close_of}
use Rattle.worlds.specs.code.Over.{entry}

-- each person of a set alone, and nobody at the others
pub record Alone (persons : ℕ) (classes : List ℕ) : Type 0 where
  pub at : (p : ℕ) → entry classes p ≡ only (has persons p) (one p)

-- at each person of a set the closing of that person under the sets, each of which lies within the set
pub record ClassesBy (persons : ℕ) (sets classes : List ℕ) : Type 0 where
  pub few : persons < 2 ^ 64
  pub inside : all_of (λ s. subset s persons) sets ≡ true
  pub at : (p : ℕ) → has persons p ≡ true → entry classes p ≡ close_of sets (one p)

-- classes by some sets become classes by more; persons outside them are left alone
pub record Joins (more before after : List ℕ) : Type 0 where
  pub classes : (persons : ℕ) (sets : List ℕ) → all_of (λ s. subset s persons) more ≡ true → ClassesBy persons sets before → ClassesBy persons (sets ++ more) after
  pub others : (persons : ℕ) (sets : List ℕ) → all_of (λ s. subset s persons) more ≡ true → ClassesBy persons sets before
      → (p : ℕ) → has persons p ≡ false → entry after p ≡ entry before p

-- an edge's pair where it lies within a set, else nobody
abbrev pub joinable : List ℕ → ℕ → ℕ → ℕ
joinable pairs within e = only (subset (entry pairs e) within) (entry pairs e)
