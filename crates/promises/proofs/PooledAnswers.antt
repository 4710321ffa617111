-- What holds of every pooling that is not refused, in the bytes of its lines. Document 02, Ticket 1.
use mathlib.Core.Path.{◌≡◌, sym, subst}
use mathlib.Core.Bool.{true, ◌&&◌, not}
use mathlib.Core.List.{List, []}
use mathlib.Core.Logic.{◌⊎◌, ⊎_elim, ◌↔◌, ◌≢◌}
use Prim.Native.Nat.{ℕ, ◌+◌, ◌*◌, ◌^◌, ◌≤◌, ◌<◌}
use native.Mathlib.Omega.{arith}
use lib.ListN.{length}
use Rattle.sets.specs.paper.Sets.{has, lowest, sum_of, All}
use Rattle.sets.proofs.SetLaws.{size_le}
use Rattle.sets.proofs.SumLaws.{sum_most}
use Rattle.sets.proofs.Every.{all_then}
use Rattle.records.specs.paper.Case.{case_heading}
use Rattle.records.proofs.AcceptedCase.{accepted_case}
use Rattle.report.specs.paper.LineAt.{lines_from}
use Rattle.report.specs.paper.Operations.{told, Outcome, answer}
use Rattle.report.proofs.OpenedLaws.{answered_read, roster-fits}
use Rattle.billing.specs.paper.Pools.{UnitPool}
use Rattle.billing.specs.paper.Pooling.{PoolOutcome, pooled_over, pool}
use Rattle.promises.specs.Partitioned.{person_at, kind_at, block_at, Partitioned, InAll}
use Rattle.promises.specs.Pooled.{unit_at, pooled_at, amounts_where, Pooled}
use Rattle.promises.proofs.Blocks.{answered_partition}
use Rattle.promises.proofs.OneKind.{Bare, bare_together}
use Rattle.promises.proofs.PooledLines.{lines-pooled}
use Rattle.promises.proofs.PoolRefusals.{pool-over, not-refused}

module _ (plan case amounts : List ℕ) (line_room event_room : ℕ) where
  abbrev pub NotRefused : Type 0
  NotRefused = (told (pool plan case amounts line_room event_room).outcome.answer).refusal ≡ 0

  -- the bytes of the lines and their number, the units, and what is unplaced
  abbrev pub lines : List ℕ
  lines = (pool plan case amounts line_room event_room).outcome.lines

  abbrev pub count : ℕ
  count = (told (pool plan case amounts line_room event_room).outcome.answer).lines

  abbrev pub units : List UnitPool
  units = (pool plan case amounts line_room event_room).units

  abbrev pub left : ℕ
  left = (pool plan case amounts line_room event_room).unplaced

  -- ---- the answer that it rests on

  abbrev answered : Outcome
  answered = answer plan case line_room event_room

  record Resting : Type 0 where
    roster : ℕ
    fits : roster < 2 ^ 64
    parts : Partitioned InAll roster answered.lines (told answered.answer).lines
    long : length amounts ≡ (told answered.answer).lines
    is : pool plan case amounts line_room event_room ≡ pooled_over (lines_from answered.lines 0 (told answered.answer).lines) amounts answered

  resting : NotRefused → Resting
  resting given =
      let r = not-refused plan case amounts line_room event_room given in
      let t = answered_read plan case line_room event_room r.0 in
      record {
        roster = (case_heading t.1).roster;
        fits = roster-fits t.0 t.1 (accepted_case t.0 case t.1 t.3);
        parts = answered_partition plan case line_room event_room r.0 t.0 t.1 t.2 t.3;
        long = r.1;
        is = pool-over plan case amounts line_room event_room r.0 r.1;
      }

  -- ---- ALL THAT `Pooled` SAYS

  pub pooled-right : NotRefused → Pooled amounts lines count units left
  unfolding pooled_over
  pooled-right given =
      let r = resting given in
      subst (λ (x : PoolOutcome). Pooled amounts x.outcome.lines (told x.outcome.answer).lines x.units x.unplaced) (sym r.is)
      (lines-pooled r.roster answered.lines (told answered.answer).lines r.parts r.fits amounts r.long)

  -- ---- and promise by promise

  -- "All pools and all unplaced amounts together equal the list's own sum"
  pub pooled-whole : NotRefused → sum_of (λ u. u.cents) units + left ≡ sum_of (λ c. c) amounts
  pooled-whole given = (pooled-right given).whole

  -- that sum, and so each part of it, fits 64 bits
  pub pooled-fits : NotRefused → All (λ c. c < 4294967296) amounts → sum_of (λ c. c) amounts ≤ 64 * 4294967295
  pooled-fits given small =
      let r = resting given in
      let most = sum_most (λ c. c) 4294967295 amounts (all_then _ _ (λ c l. omega arith) amounts small) in
      let few = size_le r.roster in
      omega (arith, most, few, r.long, r.parts.count)

  -- "each unit in order of its lowest person": no two have the same one
  pub pooled-order : NotRefused → (i j : ℕ) → i < j → j < length units → lowest (unit_at units i).block < lowest (unit_at units j).block
  pooled-order given = (pooled-right given).order

  -- a mask is listed exactly if it is some line's block
  pub pooled-units : NotRefused
      → (b : ℕ) → ((i : ℕ) × (i < length units) × ((unit_at units i).block ≡ b)) ↔ ((k : ℕ) × (k < count) × (block_at lines k ≡ b) × (b ≢ 0))
  pooled-units given = (pooled-right given).units

  -- whoever has kind 0 or 2 is in a listed unit, which is the line's block
  pub pooled-placed : NotRefused → (k : ℕ) → k < count → InAll (kind_at lines k) → (i : ℕ) × (i < length units) × ((unit_at units i).block ≡ block_at lines k)
  pooled-placed given = (pooled-right given).placed

  -- a line's person is in a unit exactly if the line has the unit as block, and everybody in the unit has a line
  pub its_persons : NotRefused → (i : ℕ) → i < length units
      → ((k : ℕ) → k < count → (has (unit_at units i).block (person_at lines k) ≡ true) ↔ (block_at lines k ≡ (unit_at units i).block))
      × ((p : ℕ) → has (unit_at units i).block p ≡ true → (k : ℕ) × (k < count) × (person_at lines k ≡ p))
  its_persons given i l = (λ k m. (pooled-right given).persons i k l m, λ p h. (pooled-right given).everybody i p l h)

  -- "A unit's pool is the sum over its persons of kind 0 whose role is not excluded", and over nobody else
  pub its_pool : NotRefused → (i : ℕ) → i < length units
      → (unit_at units i).cents ≡ amounts_where (λ k. pooled_at lines k && has (unit_at units i).block (person_at lines k)) amounts count
  its_pool given = (pooled-right given).pool

  -- "Persons of kind 2 are not pooled, and their unit, no other, is marked open"
  pub pooled_open : NotRefused → (i : ℕ) → i < length units
      → ((unit_at units i).marked ≡ true) ↔ ((k : ℕ) × (k < count) × (has (unit_at units i).block (person_at lines k) ≡ true) × (kind_at lines k ≡ 2))
  pooled_open given = (pooled-right given).mark

  -- "The amount of everyone who is not pooled, kind 2 included, is unplaced"
  pub pooled-unplaced : NotRefused → left ≡ amounts_where (λ k. not (pooled_at lines k)) amounts count
  pooled-unplaced given = (pooled-right given).unplaced

  -- where nobody has kind 0 or 2 there are no units, and everything is unplaced
  pub pooled_nobody : NotRefused → ((k : ℕ) → k < count → InAll (kind_at lines k) → ⊥) → (units ≡ []) × (left ≡ sum_of (λ c. c) amounts)
  pooled_nobody given = (pooled-right given).none

  -- so it is with kinds 5 and 6: if one line has it, all have
  pub pooled-none : NotRefused → (k : ℕ) → k < count → (kind_at lines k ≡ 5) ⊎ (kind_at lines k ≡ 6) → (units ≡ []) × (left ≡ sum_of (λ c. c) amounts)
  unfolding pooled_over
  pooled-none given k l b = pooled_nobody given (λ j m a. other (kind_at lines j) a (subst Bare (sym (together j m)) b))
    where
      other : (kind : ℕ) → InAll kind → Bare kind → ⊥
      other kind a b = ⊎_elim (λ e. ⊎_elim (λ f. omega arith) (λ f. omega arith) b) (λ e. ⊎_elim (λ f. omega arith) (λ f. omega arith) b) a

      Together : Outcome → Type 0
      Together o = (i j : ℕ) → i < (told o.answer).lines → j < (told o.answer).lines → Bare (kind_at o.lines i) → kind_at o.lines j ≡ kind_at o.lines i

      together : (j : ℕ) → j < count → kind_at lines j ≡ kind_at lines k
      together j m =
          subst (λ (x : PoolOutcome). Together x.outcome) (sym (resting given).is)
          (bare_together plan case line_room event_room (not-refused plan case amounts line_room event_room given).0) k j l m b
