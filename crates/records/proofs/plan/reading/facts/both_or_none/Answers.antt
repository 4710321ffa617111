-- Both bits or none.
use borrow.Author.Tests.{eq-eqb, ne_eqb}
use Rattle.records.proofs.plan.reading.facts.both_or_none.Goals as goal

pub returns-then-bits-eq3 : goal.returns-then-bits-eq3
returns-then-bits-eq3 c = rw (eq-eqb _ _ c.if-bits-eq3.true)

pub returns : goal.returns
returns c = rw (ne_eqb _ _ c.if-bits-eq3.false)
