-- The eight bytes of a mask, or none.
use mathlib.Core.List.{[], ◌∷◌}
use native.Mathlib.Omega.{arith}
use borrow.Author.Tests.{not-true, not-false}
use Rattle.records.specs.paper.Fields.{field_at, little, number}
use Rattle.records.proofs.Reading.{eight_free, bytes-short}
use Rattle.records.proofs.fields.mask_at.Goals as goal

pub returns-then-not-present : goal.returns-then-not-present
unfolding little
returns-then-not-present c = rw (not-true c.args.present c.if-not-present.true-raw)

pub returns-then-s-at-ge8 : goal.returns-then-s-at-ge8
returns-then-s-at-ge8 c = rw (not-false c.args.present c.if-not-present.false-raw) (eight_free c.args.s.now c.args.at c.word_at-low.ensures.2 c.word_at-high.ensures.2 c.word_at-low.ensures.0 c.word_at-high.ensures.0)

pub returns-else-s-at-ge8 : goal.returns-else-s-at-ge8
unfolding field_at
returns-else-s-at-ge8 c = rw (not-false c.args.present c.if-not-present.false-raw, bytes-short c.args.s.now c.args.at number (number ∷ number ∷ number ∷ number ∷ number ∷ number ∷ number ∷ []) (omega arith))

pub returns-else-at-s : goal.returns-else-at-s
unfolding field_at
returns-else-at-s c = rw (not-false c.args.present c.if-not-present.false-raw, bytes-short c.args.s.now c.args.at number (number ∷ number ∷ number ∷ number ∷ number ∷ number ∷ number ∷ []) (omega arith))
