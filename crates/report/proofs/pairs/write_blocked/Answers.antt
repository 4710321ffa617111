use Prim.Native.Nat.{◌<◌}
use native.Mathlib.Omega.{arith}
use borrow.Author.Rules.{rules}
use Rattle.records.specs.code.Decoded.{cut_of}
use Rattle.expressions.specs.paper.Rules.{cut_count}
use Rattle.report.specs.code.Happened.{blocked_over}
use Rattle.report.proofs.EventLaws.{cut_read}
use Rattle.report.proofs.pairs.write_blocked.Goals as goal

pub returns-clause-written : goal.returns-clause-written
unfolding blocked_over cut_of
returns-clause-written c P C e v k b = rw (← k) (c.write_pairs.ensures.written _ _ b (λ i d x few h made. let l : i < cut_count P = omega arith in search (rules, cut_read)))
