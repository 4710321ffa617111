-- `bindings::binding`: a case for each test.
use mathlib.Core.Path.{ap, ◌∙◌}
use Prim.Native.Nat.{ℕ}
use borrow.Author.Tests.{not-true, not-false}
use Rattle.expressions.specs.code.Codes.{bound_of}
use Rattle.expressions.specs.code.Told.{binding_from, relation_by}
use Rattle.expressions.proofs.bindings.binding.Goals as goal

pub returns-then-not-bound : goal.returns-then-not-bound
unfolding binding_from bound_of
returns-then-not-bound c = rw (not-true c.args.bound c.if-not-bound.true-raw)

pub returns-then-fact : goal.returns-then-fact
unfolding binding_from
returns-then-fact c = rw (not-false c.args.bound c.if-not-bound.false-raw, c.if-fact.true) c.bound_boolean.ensures

pub returns : goal.returns
unfolding binding_from
returns c = rw (not-false c.args.bound c.if-not-bound.false-raw, c.if-fact.false) (c.bound_relation.ensures ∙ ap (λ (k : ℕ). relation_by k c.args.told.seen) c.silence.ensures)
