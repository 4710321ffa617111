-- A case answered and its amounts pooled. Document 02, Ticket 1: result, refusal and every byte of both lent buffers.
use Rattle.std.specs.Prelude.{cond, List, [], ℕ, length, eqb}
use Rattle.report.specs.paper.Line.{Line}
use Rattle.report.specs.paper.LineAt.{lines_from}
use Rattle.report.specs.paper.Operations.{Outcome, refusal, answer}
use Rattle.report.specs.declared.Answer.{Answer}
use Rattle.report.specs.declared.Answer.TheVariants.{Accepted, Answered, Refused, TooManyWorlds}
use Rattle.billing.specs.paper.Pools.{UnitPool, shares, unplaced, pools}

pub record PoolOutcome : Type 0 where
  -- the answer to the case, with every byte of both lent buffers
  pub outcome : Outcome
  pub units : List UnitPool
  pub unplaced : ℕ

-- no units, and nothing unplaced
abbrev pub unpooled : Outcome → PoolOutcome
unpooled o = record { outcome = o; units = []; unplaced = 0 }

-- over the lines that were written
unfoldable pub pooled_over : List Line → List ℕ → Outcome → PoolOutcome
pooled_over ls amounts o = record { outcome = o; units = pools ls amounts; unplaced = unplaced (shares ls amounts) }

-- "Turned away: 15, the list's length is not the roster's, checked after 13, or after 12 for an incomplete roster": after all that the answer is
-- refused for. There is a line for each roster person
abbrev pub pooled_by : List ℕ → ℕ → ℕ → Outcome → Answer → PoolOutcome
pooled_by amounts line_room event_room o (Answered n e w) =
    cond (eqb (length amounts) n) (pooled_over (lines_from o.lines 0 n) amounts o) (unpooled (refusal line_room event_room (Refused 15 0)))
pooled_by amounts line_room event_room o (Refused n k) = unpooled o
pooled_by amounts line_room event_room o (TooManyWorlds c m) = unpooled o
-- no case is answered so
pooled_by amounts line_room event_room o Accepted = unpooled o

-- ---- POOL THE AMOUNTS OF A CASE

unfoldable pub pool : List ℕ → List ℕ → List ℕ → ℕ → ℕ → PoolOutcome
pool plan case amounts line_room event_room =
    let o = answer plan case line_room event_room in
    pooled_by amounts line_room event_room o o.answer
