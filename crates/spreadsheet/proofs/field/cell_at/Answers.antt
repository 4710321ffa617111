-- `field::cell_at`: a broken field, a comma, or none.
use mathlib.Core.Path.{ap, sym, ◌∙◌}
use native.Mathlib.Omega.{arith}
use Rattle.spreadsheet.specs.paper.Rows.{comma}
use Rattle.spreadsheet.specs.code.FieldSeen.{between, field_seen, within}
use Rattle.spreadsheet.specs.declared.field.Field.TheVariants.{Text}
use Rattle.spreadsheet.proofs.FieldLaws.{comma_there, comma-not}
use Rattle.spreadsheet.proofs.field.cell_at.Goals as goal

pub returns-in_default : goal.returns-in_default
returns-in_default c =
    let a = c.args in
    (ap comma (ap (field_seen a.s.now) (sym c.in_default.is) ∙ c.field_at.ensures.0), (tt, tt))

pub overflow_add-result : goal.overflow_add-result
overflow_add-result c = omega (arith, c.peek.ensures.1 (omega arith))

pub returns-then-peek-eq44 : goal.returns-then-peek-eq44
returns-then-peek-eq44 c =
    let a = c.args in
    let v = c.in-Text in
    let w : within a.s.now a.at (Text v.a v.e v.n) = rw v.is at c.field_at.ensures.1 in
    let h = c.peek.ensures.1 (omega arith) in (
      comma_there a.s.now (between a.s.now v.a v.e) v.n _ (ap (field_seen a.s.now) (sym v.is) ∙ c.field_at.ensures.0) (sym c.peek.ensures.0 ∙ c.if-peek-eq44.true),
      ((omega (arith, w), (omega (arith, w), (omega (arith, w), omega (arith, w, h)))), omega (arith, w)),
    )

pub returns : goal.returns
returns c =
    let a = c.args in
    let v = c.in-Text in
    (comma-not a.s.now (between a.s.now v.a v.e) v.n _ (ap (field_seen a.s.now) (sym v.is) ∙ c.field_at.ensures.0) (λ h. c.if-peek-eq44.false (c.peek.ensures.0 ∙ h)), (tt, tt))
