-- `bindings::takes_default`: a case for each test.
use borrow.Author.Tests.{not-true, not-false}
use Rattle.expressions.specs.code.Told.{default_from}
use Rattle.expressions.proofs.bindings.takes_default.Goals as goal

pub returns-then-not-bound : goal.returns-then-not-bound
unfolding default_from
returns-then-not-bound c = rw (not-true c.args.bound c.if-not-bound.true-raw)

pub returns-then-not-fact : goal.returns-then-not-fact
unfolding default_from
returns-then-not-fact c = rw (not-false c.args.bound c.if-not-bound.false-raw, not-true c.args.fact.boolean c.if-not-fact.true)

pub returns-then-told : goal.returns-then-told
unfolding default_from
returns-then-told c = rw (not-false c.args.bound c.if-not-bound.false-raw, not-false c.args.fact.boolean c.if-not-fact.false, c.if-told.true)

pub returns-then-seen : goal.returns-then-seen
unfolding default_from
returns-then-seen c = rw (not-false c.args.bound c.if-not-bound.false-raw, not-false c.args.fact.boolean c.if-not-fact.false, c.if-told.false, c.if-seen.true)

pub returns : goal.returns
unfolding default_from
returns c = rw (not-false c.args.bound c.if-not-bound.false-raw, not-false c.args.fact.boolean c.if-not-fact.false, c.if-told.false, c.if-seen.false) c.has_default.ensures
