use borrow.Author.Rules.{rules}
use Rattle.report.specs.code.Happened.{overlap_over}
use Rattle.report.proofs.pairs.write_clashes.Goals as goal

pub returns-clause-written : goal.returns-clause-written
unfolding overlap_over
returns-clause-written c P k b = rw (← k) (c.write_pairs.ensures.written _ _ (rw (← k) at b) (λ i d x few h made. search rules))
