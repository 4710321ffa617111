-- `expressions::bindings::weigh` meets its contract: a case for each test.
use borrow.Author.Tests.{eq-eqb, ne_eqb, not-true, not-false}
use Rattle.expressions.specs.code.Codes.{bound_of}
use Rattle.expressions.specs.code.Sight.{bound_by}
use Rattle.expressions.proofs.bindings.weigh.Goals as goal

pub returns-then-not-seen : goal.returns-then-not-seen
unfolding bound_by
returns-then-not-seen c = rw (not-true c.args.seen.any c.if-not-seen.true)

pub returns-then-seen-2 : goal.returns-then-seen-2
unfolding bound_by bound_of
returns-then-seen-2 c = rw (not-false c.args.seen.any c.if-not-seen.false, c.if-seen.true, c.if-seen-2.true)

pub returns-then-seen-eq1 : goal.returns-then-seen-eq1
unfolding bound_by bound_of
returns-then-seen-eq1 c =
    let k = c in
    rw (not-false k.args.seen.any k.if-not-seen.false, k.if-seen.true, k.if-seen-2.false, eq-eqb _ _ c.if-seen-eq1.true)

pub returns-then-seen : goal.returns-then-seen
unfolding bound_by bound_of
returns-then-seen c =
    let k = c in
    rw (not-false k.args.seen.any k.if-not-seen.false, k.if-seen.true, k.if-seen-2.false, ne_eqb _ _ c.if-seen-eq1.false)

pub returns-then-seen-eq1-2 : goal.returns-then-seen-eq1-2
unfolding bound_by bound_of
returns-then-seen-eq1-2 c =
    let k = c in
    rw (not-false k.args.seen.any k.if-not-seen.false, k.if-seen.false, eq-eqb _ _ c.if-seen-eq1-2.true)

pub returns : goal.returns
unfolding bound_by bound_of
returns c =
    let k = c in
    rw (not-false k.args.seen.any k.if-not-seen.false, k.if-seen.false, ne_eqb _ _ c.if-seen-eq1-2.false)
