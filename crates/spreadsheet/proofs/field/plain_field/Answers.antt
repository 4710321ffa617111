-- `field::plain_field`: up to the scan's end.
use native.Mathlib.Omega.{arith}
use Rattle.spreadsheet.proofs.FieldLaws.{plain_at}
use Rattle.spreadsheet.proofs.field.plain_field.Goals as goal

pub returns : goal.returns
returns c =
    let a = c.args in
    (plain_at a.s.now a.at c.plain_end-e.result c.plain_end-e.ensures.0, (omega arith, (omega arith, (omega arith, omega arith))))
