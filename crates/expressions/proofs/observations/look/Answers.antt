-- `expressions::observations::look` meets its contract: a case for each test.
use borrow.Author.Tests.{eq-eqb, ne_eqb}
use Rattle.expressions.specs.code.Sight.{look_at}
use Rattle.expressions.proofs.observations.look.Goals as goal

pub returns-then-not-seen : goal.returns-then-not-seen
unfolding look_at
returns-then-not-seen c = rw c.if-not-seen.true

pub returns-then-value-seen : goal.returns-then-value-seen
unfolding look_at
returns-then-value-seen c = rw (c.if-not-seen.false, ne_eqb _ _ c.if-value-seen.true)

pub returns-then-evidence-seen : goal.returns-then-evidence-seen
unfolding look_at
returns-then-evidence-seen c = rw (c.if-not-seen.false, eq-eqb _ _ c.if-value-seen.false, ne_eqb _ _ c.if-evidence-seen.true)

pub returns : goal.returns
unfolding look_at
returns c = rw (c.if-not-seen.false, eq-eqb _ _ c.if-value-seen.false, eq-eqb _ _ c.if-evidence-seen.false)
