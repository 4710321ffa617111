-- `field::last_at`: a broken field, the end, CRLF, or neither.
use mathlib.Core.Path.{ap, sym, ◌∙◌}
use native.Mathlib.Omega.{arith}
use Rattle.spreadsheet.specs.paper.Rows.{last}
use Rattle.spreadsheet.specs.code.FieldSeen.{between, field_seen, within}
use Rattle.spreadsheet.specs.declared.field.Field.TheVariants.{Text}
use Rattle.spreadsheet.proofs.FieldLaws.{last_end, last-not, last_half, last_row_lem}
use Rattle.spreadsheet.proofs.field.last_at.Goals as goal

pub returns-in_default : goal.returns-in_default
returns-in_default c =
    let a = c.args in
    (ap last (ap (field_seen a.s.now) (sym c.in_default.is) ∙ c.field_at.ensures.0), tt)

pub returns-then-n-s : goal.returns-then-n-s
returns-then-n-s c =
    let a = c.args in
    let v = c.in-Text in
    let w : within a.s.now a.at (Text v.a v.e v.n) = rw v.is at c.field_at.ensures.1 in
    (last_end a.s.now (between a.s.now v.a v.e) v.n _ (ap (field_seen a.s.now) (sym v.is) ∙ c.field_at.ensures.0) c.if-n-s.true, w)

pub returns-then-peek-ne13 : goal.returns-then-peek-ne13
returns-then-peek-ne13 c =
    let a = c.args in
    let v = c.in-Text in
    (last-not a.s.now (between a.s.now v.a v.e) v.n _ (ap (field_seen a.s.now) (sym v.is) ∙ c.field_at.ensures.0) c.if-n-s.false (λ h. c.if-peek-ne13.true (c.peek.ensures.0 ∙ h)), tt)

pub returns-then-peek-ne10 : goal.returns-then-peek-ne10
returns-then-peek-ne10 c =
    let a = c.args in
    let v = c.in-Text in
    (last_half a.s.now (between a.s.now v.a v.e) v.n _ (ap (field_seen a.s.now) (sym v.is) ∙ c.field_at.ensures.0) c.if-n-s.false (sym c.peek.ensures.0 ∙ c.if-peek-ne13.false) (λ h. c.if-peek-ne10.true (c.peek-2.ensures.0 ∙ h)), tt)

pub returns : goal.returns
returns c =
    let a = c.args in
    let v = c.in-Text in
    let w : within a.s.now a.at (Text v.a v.e v.n) = rw v.is at c.field_at.ensures.1 in
    let h = c.peek-2.ensures.1 (omega arith) in (
      last_row_lem a.s.now (between a.s.now v.a v.e) v.n _ (ap (field_seen a.s.now) (sym v.is) ∙ c.field_at.ensures.0) c.if-n-s.false (sym c.peek.ensures.0 ∙ c.if-peek-ne13.false) (sym c.peek-2.ensures.0 ∙ c.if-peek-ne10.false),
      (omega (arith, w), (omega (arith, w), (omega (arith, w), omega (arith, h)))),
    )
