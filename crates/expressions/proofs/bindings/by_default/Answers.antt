-- `expressions::bindings::by_default` meets its contract: a case for each policy.
use borrow.Author.Tests.{eq-eqb, ne_eqb, not-true, not-false}
use Rattle.expressions.specs.code.Codes.{bound_of}
use Rattle.expressions.specs.paper.Bindings.{default_of}
use Rattle.records.specs.code.Decoded.{election_of}
use Rattle.expressions.proofs.bindings.by_default.Goals as goal

pub returns-then-not-e : goal.returns-then-not-e
unfolding election_of default_of bound_of
returns-then-not-e c = rw (not-true c.args.e.given c.if-not-e.true)

pub returns-then-e-eq1 : goal.returns-then-e-eq1
unfolding election_of default_of bound_of
returns-then-e-eq1 c = rw (not-false c.args.e.given c.if-not-e.false, eq-eqb _ _ c.if-e-eq1.true)

pub returns-then-e-eq2 : goal.returns-then-e-eq2
unfolding election_of default_of bound_of
returns-then-e-eq2 c = rw (not-false c.args.e.given c.if-not-e.false, ne_eqb _ _ c.if-e-eq1.false, eq-eqb _ _ c.if-e-eq2.true)

pub returns : goal.returns
unfolding election_of default_of bound_of
returns c = rw (not-false c.args.e.given c.if-not-e.false, ne_eqb _ _ c.if-e-eq1.false, ne_eqb _ _ c.if-e-eq2.false)
