-- What the code's lines stand for, and how they follow from the sums of persons.
use Rattle.std.specs.Prelude.{◌≡◌, true, ℕ, ◌*◌, ◌<◌, drop}
use mathlib.Core.List.{List, ◌∷◌, ◌++◌, flat_map}
use Rattle.sets.specs.paper.Sets.{has, size, members, union_of, All}
use Rattle.expressions.specs.paper.Variables.{Influence}
use Rattle.worlds.specs.paper.View.{View}
use Rattle.worlds.specs.code.Tables.{row}
use Rattle.report.specs.paper.Line.{line_length}
use Rattle.report.specs.paper.Line as paper
use Rattle.report.specs.code.Summed.{SummedAt, stands}
use Rattle.report.specs.declared.line.Line.{Line}

abbrev pub line_from : Line → paper.Line
line_from l = record {
  person = l.person;
  kind = l.kind;
  role = l.role;
  block = l.block;
  open_facts = l.facts;
  open_decisions = l.decisions;
  citations = l.citations;
}

-- the sums of a person over at least one world, with the citations of a block that stands
pub record SumsOf (v : View) (vs : List View) (p : ℕ) (sums : List (List ℕ)) : Type 0 where
  pub summed : SummedAt (v ∷ vs) p sums
  pub citations : stands (v ∷ vs) ≡ true → row sums 3 p ≡ union_of (λ u. u.citations) (v ∷ vs)
  pub small : All (λ u. (u.role < 256) × (u.kind < 256)) (v ∷ vs)

-- the line of a person, whatever worlds the sums are of
pub record LineBy (sums : List (List ℕ)) (p facts decisions : ℕ) (r : Line) : Type 0 where
  pub at : (I : Influence) (v : View) (vs : List View) → SumsOf v vs p sums → facts ≡ paper.holding I.facts p → decisions ≡ paper.holding I.decisions p
      → line_from r ≡ paper.line_over I p (v ∷ vs)

-- the lines of these persons at the front, the rest as it was
pub record LinesBy (sums : List (List ℕ)) (persons : ℕ) (facts decisions before after : List ℕ) : Type 0 where
  pub at : (first : ℕ → View) (more : ℕ → List View) → ((p : ℕ) → has persons p ≡ true → SumsOf (first p) (more p) p sums)
      → after ≡ flat_map (λ p. paper.line_bytes (paper.line_over (record { facts = facts; decisions = decisions }) p (first p ∷ more p))) (members persons)
      ++ drop (line_length * size persons) before
