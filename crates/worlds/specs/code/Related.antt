-- How the cuts of a plan stand to each other and to the Combination edges, in the tables of a case.
use Rattle.std.specs.Prelude.{◌≡◌, true, false, ◌&&◌, not, List, [], ◌∷◌, ℕ, ◌<◌, ◌-◌, ◌^◌, eqb, ltb}
use Rattle.sets.specs.paper.Sets.{has, union, meets, set_of, rising_less, union_of, members, fold_below, All}
use Rattle.records.specs.paper.Plan.{Plan, Cut}
use Rattle.records.specs.declared.plan.Cuts.{Cuts}
use Rattle.expressions.specs.paper.Rules.{cut_count, cut}
use Rattle.records.specs.code.Decoded.{cuts_of}
use Rattle.worlds.specs.code.Over.{entry}
use Rattle.worlds.specs.code.Tables.{row}
use Rattle.worlds.specs.code.Laid.{Same}

abbrev pub PrecedesFit : Cut → Type 0
PrecedesFit c = All (λ n. n < 64) c.precedes

-- the cuts that each cut precedes by its own list
pub record Preceding (cuts : Cuts) (direct : List ℕ) : Type 0 where
  pub at : (P : Plan) → P.cuts ≡ cuts_of cuts → (c : ℕ) → c < cut_count P → entry direct c ≡ set_of (cut P c).precedes

-- one step after another: all that are there, with what they precede
unfoldable pub chain_by : List ℕ → ℕ → ℕ → ℕ
chain_by direct steps from = fold_below steps (λ k m. union m (union_of (entry direct) (members m))) from

pub record Chained (direct : List ℕ) (cuts steps : ℕ) (preceded : List ℕ) : Type 0 where
  pub at : (c : ℕ) → has cuts c ≡ true → entry preceded c ≡ chain_by direct steps (entry direct c)

-- the rows of a cut, from the rows of members and pairs
pub record RelatedAt (preceded : List ℕ) (c cuts combination : ℕ) (before after : List (List ℕ)) : Type 0 where
  pub twins : (d : ℕ) → has (row after 2 c) d ≡ (has cuts d && eqb (row before 1 c) (row before 1 d))
  pub lower : (d : ℕ) → has (row after 3 c) d ≡ ((has cuts d && eqb (row before 1 c) (row before 1 d)) && ltb d c)
  pub droppers : (d : ℕ) → has (row after 4 c) d
      ≡ ((has cuts d && meets (row before 1 d) (row before 1 c)) && (has (entry preceded d) c && not (has (entry preceded c) d)))
  pub clashing : (d : ℕ) → has (row after 5 c) d
      ≡ ((has cuts d && meets (row before 1 d) (row before 1 c)) && not (eqb (row before 1 c) (row before 1 d)))
  pub later : (d : ℕ) → has (row after 6 c) d
      ≡ ((has cuts d && meets (row before 1 d) (row before 1 c)) && rising_less (row before 1 c) (row before 1 d))
  pub crossing : (e : ℕ) → has (row after 7 c) e
      ≡ ((has combination e && meets (row before 0 e) (row before 1 c)) && meets (row before 0 e) ((2 ^ 64 - 1) - row before 1 c))

pub record CutRelated (preceded : List ℕ) (c cuts combination : ℕ) (before after : List (List ℕ)) : Type 0 where
  pub here : RelatedAt preceded c cuts combination before after
  pub others : (k d : ℕ) → eqb c d ≡ false → row after k d ≡ row before k d
  pub same : Same (2 ∷ 3 ∷ 4 ∷ 5 ∷ 6 ∷ 7 ∷ []) before after

pub record CutsRelated (preceded : List ℕ) (cuts combination : ℕ) (before after : List (List ℕ)) : Type 0 where
  pub each : (c : ℕ) → has cuts c ≡ true → RelatedAt preceded c cuts combination before after
  pub same : Same (2 ∷ 3 ∷ 4 ∷ 5 ∷ 6 ∷ 7 ∷ []) before after
