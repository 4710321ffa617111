-- `field::field_at`: quoted, or plain.
use mathlib.Core.Path.{sym, ◌∙◌}
use native.Mathlib.Omega.{arith}
use Rattle.spreadsheet.proofs.FieldLaws.{field-quoted, field_plain, within_more}
use Rattle.spreadsheet.proofs.field.field_at.Goals as goal

pub quoted_field-requires : goal.quoted_field-requires
quoted_field-requires c = omega (arith, c.peek.ensures.1 (omega arith))

pub returns-then-peek-eq34 : goal.returns-then-peek-eq34
returns-then-peek-eq34 c =
    let a = c.args in
    (c.quoted_field.ensures.0 ∙ field-quoted a.s.now a.at (sym c.peek.ensures.0 ∙ c.if-peek-eq34.true), within_more a.s.now a.at c.quoted_field.result c.quoted_field.ensures.1)

pub returns : goal.returns
returns c =
    let a = c.args in
    (c.plain_field.ensures.0 ∙ field_plain a.s.now a.at (λ h. c.if-peek-eq34.false (c.peek.ensures.0 ∙ h)), c.plain_field.ensures.1)
