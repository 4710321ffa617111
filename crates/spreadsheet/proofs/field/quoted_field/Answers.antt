-- `field::quoted_field`: no quote, two quotes, or one that closes.
use mathlib.Core.Path.{sym, ◌∙◌}
use native.Mathlib.Omega.{arith}
use Rattle.spreadsheet.proofs.FieldLaws.{quoted-not, quoted_twice, quoted-text}
use Rattle.spreadsheet.proofs.field.quoted_field.Goals as goal

pub returns-then-peek-ne34 : goal.returns-then-peek-ne34
returns-then-peek-ne34 c =
    let a = c.args in
    let e = c.quoted_end-e in
    (quoted-not a.s.now a.at e.result e.ensures.0 (λ h. c.if-peek-ne34.true (c.peek.ensures.0 ∙ h)), tt)

pub returns-then-peek-eq34 : goal.returns-then-peek-eq34
returns-then-peek-eq34 c =
    let a = c.args in
    let e = c.quoted_end-e in
    (quoted_twice a.s.now a.at e.result e.ensures.0 (sym c.peek.ensures.0 ∙ c.if-peek-ne34.false) (sym c.peek-2.ensures.0 ∙ c.if-peek-eq34.true), tt)

pub returns : goal.returns
returns c =
    let a = c.args in
    let e = c.quoted_end-e in
    let h = c.peek.ensures.1 (omega arith) in (
      quoted-text a.s.now a.at e.result e.ensures.0 (sym c.peek.ensures.0 ∙ c.if-peek-ne34.false) (λ h. c.if-peek-eq34.false (c.peek-2.ensures.0 ∙ h)),
      (omega arith, (omega arith, (omega arith, omega (arith, h)))),
    )
