-- A field of one byte whose bit may stand.
use mathlib.Core.Path.{sym, ◌∙◌}
use Rattle.records.proofs.Reading.{one_field}
use Rattle.records.proofs.fields.opt_at.Goals as goal

pub returns-then-present : goal.returns-then-present
returns-then-present c = let a = c.args in rw c.if-present.true (c.byte_at.ensures ∙ sym (one_field a.s.now a.at (record { low = a.low; top = a.top })))

pub returns-else-present : goal.returns-else-present
returns-else-present c = rw c.if-present.false
