-- `bindings::bound_relation`: Unknown without a family in scope, else what was seen, else what silence means.
use borrow.Author.Tests.{eq-eqb, ne_eqb}
use Rattle.expressions.specs.code.Codes.{bound_of}
use Rattle.expressions.specs.code.Told.{relation_by}
use Rattle.expressions.proofs.bindings.bound_relation.Goals as goal

pub returns-then-silent-eq0 : goal.returns-then-silent-eq0
unfolding relation_by bound_of
returns-then-silent-eq0 c = rw (eq-eqb _ _ c.if-silent-eq0.true)

pub returns : goal.returns
unfolding relation_by
returns c = rw (ne_eqb _ _ c.if-silent-eq0.false) c.weigh.ensures
