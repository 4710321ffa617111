-- What the operation gives back: the answer, every byte of both lent buffers, the pools.
use Rattle.std.specs.Prelude.{List, ℕ}
use Rattle.report.specs.declared.Answer.{Answer}
use Rattle.billing.specs.paper.Pooling.{PoolOutcome}
use Rattle.billing.specs.Shown.{laid}
use Rattle.billing.specs.declared.pools.Pools.{Pools}

pub record Given : Type 0 where
  pub answer : Answer
  pub lines : List ℕ
  pub events : List ℕ
  pub pools : Pools

abbrev pub given : PoolOutcome → Given
given p = record { answer = p.outcome.answer; lines = p.outcome.lines; events = p.outcome.events; pools = laid p.units p.unplaced }
