-- `bindings::bound_boolean`: explicit unknown first, then what was seen, then the default.
use mathlib.Core.Path.{ap, ◌∙◌}
use Rattle.expressions.specs.code.Sight.{bound_by}
use Rattle.expressions.specs.code.Codes.{bound_of}
use Rattle.expressions.specs.code.Told.{boolean_by}
use Rattle.expressions.proofs.bindings.bound_boolean.Goals as goal

pub returns-then-told : goal.returns-then-told
unfolding boolean_by bound_of
returns-then-told c = rw c.if-told.true

pub returns-else-told : goal.returns-else-told
unfolding boolean_by
returns-else-told c = rw c.if-told.false (c.weigh.ensures ∙ ap (bound_by c.args.told.seen) c.by_default-silent.ensures)
