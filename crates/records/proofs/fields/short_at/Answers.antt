-- Two bytes up to 4,096, or none.
use mathlib.Core.Path.{sym, ◌∙◌, ap}
use borrow.Author.Tests.{not-true, not-false, le-leb, lt-leb}
use Prim.Native.Nat.{ℕ}
use lib.Dec.{leb}
use Rattle.records.specs.paper.Fields.{got, field_at, bytes_at, little}
use Rattle.records.specs.code.Readers.{field_read}
use Rattle.records.proofs.Reading.{seen, word_is}
use Rattle.records.proofs.fields.short_at.Goals as goal

pub returns-then-not-present : goal.returns-then-not-present
unfolding little
returns-then-not-present c = rw (not-true c.args.present c.if-not-present.true-raw)

pub returns-in_default : goal.returns-in_default
unfolding field_at bytes_at
returns-in_default c = rw (not-false c.args.present c.if-not-present.false-raw, seen field_read c.byte_at.ensures c.in_default.is)

pub returns-in_default-byte_at : goal.returns-in_default-byte_at
unfolding field_at bytes_at
returns-in_default-byte_at c = rw (not-false c.args.present c.if-not-present.false-raw, seen field_read c.byte_at.ensures c.in-Got.is, seen field_read c.byte_at-2.ensures c.in_default-byte_at.is)

pub returns-then-value-le4096 : goal.returns-then-value-le4096
unfolding field_at bytes_at
returns-then-value-le4096 c = let w = word_is c.from.ensures c.from-2.ensures in rw (not-false c.args.present c.if-not-present.false-raw, seen field_read c.byte_at.ensures c.in-Got.is, seen field_read c.byte_at-2.ensures c.in-Got-byte_at.is, ap (λ (x : ℕ). leb x 4096) (sym w) ∙ le-leb _ _ c.if-value-le4096.true) (ap (λ (x : ℕ). got x c.in-Got-byte_at.q) w)

pub returns : goal.returns
unfolding field_at bytes_at
returns c = let w = word_is c.from.ensures c.from-2.ensures in rw (not-false c.args.present c.if-not-present.false-raw, seen field_read c.byte_at.ensures c.in-Got.is, seen field_read c.byte_at-2.ensures c.in-Got-byte_at.is, ap (λ (x : ℕ). leb x 4096) (sym w) ∙ lt-leb _ _ c.if-value-le4096.false)
