-- What an operation hands to a host: a result, document 01's numbers in a list, the bytes of both lent buffers.
use Rattle.std.specs.Prelude.{List, [], ◌∷◌, ◌++◌, map, ℕ, length}
use Rattle.sets.specs.paper.Sets.{only}
use Rattle.report.specs.paper.Operations.{Told, told, Outcome}
use Rattle.billing.specs.paper.Pooling.{PoolOutcome}
use Rattle.billing.specs.Shown.{padded}
use Rattle.records.specs.paper.Fields.{Verdict, fine, refused}
use Rattle.encoding.specs.paper.Placed.{Kept}

unfoldable pub numbers : Told → List ℕ
numbers t = t.refusal ∷ t.«record» ∷ t.count ∷ t.maximum ∷ t.lines ∷ t.events ∷ t.worlds ∷ []

pub record Handed : Type 0 where
  -- the refusal's number, 0 for none
  pub result : ℕ
  pub told : List ℕ
  pub lines : List ℕ
  pub events : List ℕ

abbrev pub handed : Outcome → Handed
handed o = record { result = (told o.answer).refusal; told = numbers (told o.answer); lines = o.lines; events = o.events }

-- behind the numbers the count of units and the unplaced sum; beside the buffers, of each unit its block, its pool and 1 where it is marked, else 0
pub record HandedPools : Type 0 where
  pub result : ℕ
  pub told : List ℕ
  pub lines : List ℕ
  pub events : List ℕ
  pub blocks : List ℕ
  pub pools : List ℕ
  pub marks : List ℕ

abbrev pub handed_pools : PoolOutcome → HandedPools
handed_pools p = record {
  result = (told p.outcome.answer).refusal;
  told = numbers (told p.outcome.answer) ++ (length p.units ∷ p.unplaced ∷ []);
  lines = p.outcome.lines;
  events = p.outcome.events;
  blocks = padded 0 (map (λ u. u.block) p.units);
  pools = padded 0 (map (λ u. u.cents) p.units);
  marks = padded 0 (map (λ u. only u.marked 1) p.units);
}

-- ---- plan bytes that were made

-- 0 for no refusal
abbrev pub made_refusal : Verdict ℕ → ℕ
made_refusal (fine n) = 0
made_refusal (refused n k) = n

-- the refusal, its record, the plan's length
abbrev pub made_numbers : Verdict ℕ → List ℕ
made_numbers (fine n) = 0 ∷ 0 ∷ n ∷ []
made_numbers (refused n k) = n ∷ k ∷ 0 ∷ []

pub record HandedPlan : Type 0 where
  -- the refusal's number, 0 for none
  pub result : ℕ
  pub made : List ℕ
  -- every byte of the lent buffer
  pub plan : List ℕ

abbrev pub handed_plan : Kept → HandedPlan
handed_plan k = record { result = made_refusal k.answer; made = made_numbers k.answer; plan = k.bytes }
