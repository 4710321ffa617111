-- What is a household in an answered case, and what pooling makes of a unit that is none. Document 02, Ticket 3.
use mathlib.Core.Path.{◌≡◌, sym, subst}
use mathlib.Core.Bool.{false, not}
use mathlib.Core.List.{List}
use mathlib.Core.Logic.{◌↔◌}
use Prim.Native.Nat.{ℕ, ◌+◌, ◌<◌}
use lib.ListN.{length}
use Rattle.sets.specs.paper.Sets.{count_of}
use Rattle.sets.proofs.SumLaws.{count_parted}
use Rattle.records.specs.paper.Case.{case_heading}
use Rattle.report.specs.paper.Line.{Line}
use Rattle.report.specs.paper.LineAt.{lines_from}
use Rattle.report.specs.paper.Units.{units as units_of}
use Rattle.report.specs.paper.Operations.{told, Outcome, answer}
use Rattle.report.proofs.OpenedLaws.{answered_read}
use Rattle.billing.specs.paper.Pooling.{PoolOutcome, pooled_over, pool}
use Rattle.billing.specs.paper.Households.{household, household_count}
use Rattle.promises.specs.Partitioned.{Partitioned, InAll}
use Rattle.promises.specs.Pooled.{unit_at}
use Rattle.promises.specs.NoHousehold.{IsUnit, DrawsNoService, EverybodyExcluded}
use Rattle.promises.proofs.Blocks.{answered_partition}
use Rattle.promises.proofs.HouseholdLines.{unit_draws, unit_excluded}
use Rattle.promises.proofs.IdleUnits.{idle_unit}
use Rattle.promises.proofs.PoolRefusals.{pool-over, not-refused}
use Rattle.promises.proofs.PooledAnswers.{NotRefused, pooled-right}

-- ---- of an answered case

module _ (plan case : List ℕ) (line_room event_room : ℕ) where
  abbrev answered : Outcome
  answered = answer plan case line_room event_room

  abbrev lines : List ℕ
  lines = answered.lines

  abbrev count : ℕ
  count = (told answered.answer).lines

  parts : (told answered.answer).refusal ≡ 0 → (roster : ℕ) × Partitioned InAll roster lines count
  parts given =
      let t = answered_read plan case line_room event_room given in
      ((case_heading t.1).roster, answered_partition plan case line_room event_room given t.0 t.1 t.2 t.3)

  -- A UNIT IS NO HOUSEHOLD EXACTLY IF its persons of kind 0 are all excluded and none has kind 2
  pub no-household : (told (answer plan case line_room event_room).answer).refusal ≡ 0
      → (b : ℕ) → IsUnit lines count b → (household (lines_from lines 0 count) b ≡ false) ↔ DrawsNoService lines count b
  no-household given b unit = unit_draws lines count (parts given).1 b unit

  -- so exactly if everybody in it is of kind 0 and excluded: "all excluded" is said of somebody
  pub all_excluded : (told (answer plan case line_room event_room).answer).refusal ≡ 0
      → (b : ℕ) → IsUnit lines count b → (household (lines_from lines 0 count) b ≡ false) ↔ EverybodyExcluded lines count b
  all_excluded given b unit = unit_excluded lines count (parts given).1 b unit

-- "counts the other blocks only": households and units that are none are all units, of whatever lines
pub counted-others : (ls : List Line) → household_count ls + count_of (λ b. not (household ls b)) (units_of ls) ≡ length (units_of ls)
unfolding household_count
counted-others ls = count_parted (household ls) (units_of ls)

-- ---- "Pools of Ticket 1 list these blocks still, with pool 0", and without a mark

module _ (plan case amounts : List ℕ) (line_room event_room : ℕ) where
  abbrev pooling : PoolOutcome
  pooling = pool plan case amounts line_room event_room

  abbrev its_lines : List ℕ
  its_lines = pooling.outcome.lines

  abbrev its_count : ℕ
  its_count = (told pooling.outcome.answer).lines

  -- the lines are the answer's
  draws : NotRefused plan case amounts line_room event_room → (b : ℕ) → IsUnit its_lines its_count b → household (lines_from its_lines 0 its_count) b ≡ false
      → DrawsNoService its_lines its_count b
  unfolding pooled_over
  draws given b =
      let r = not-refused plan case amounts line_room event_room given in
      subst
      (λ (x : PoolOutcome).
      let s = x.outcome.lines in
      let n = (told x.outcome.answer).lines in
      IsUnit s n b → household (lines_from s 0 n) b ≡ false → DrawsNoService s n b)
      (sym (pool-over plan case amounts line_room event_room r.0 r.1)) (λ unit e. (no-household plan case line_room event_room r.0 b unit).0 e)

  pub idle_pool : NotRefused plan case amounts line_room event_room
      → (b : ℕ) → IsUnit its_lines its_count b → household (lines_from its_lines 0 its_count) b ≡ false
      → (i : ℕ) × (i < length pooling.units) × (unit_at pooling.units i ≡ record { block = b; cents = 0; marked = false })
  idle_pool given b unit e =
      let P = pooled-right plan case amounts line_room event_room given in
      let r = (P.units b).1 unit in
      (r.0, r.1, idle_unit P b (draws given b unit e) r.0 r.1 r.2)
