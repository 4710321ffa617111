-- `number::number_in`: how it begins, then its digits.
use mathlib.Core.Path.{sym, ◌∙◌}
use Rattle.spreadsheet.specs.code.FieldSeen.{between}
use Rattle.spreadsheet.proofs.NumeralLaws.{number-leads, number-not}
use Rattle.spreadsheet.proofs.number.number_in.Goals as goal

pub returns-then-leads_in : goal.returns-then-leads_in
returns-then-leads_in c =
    let a = c.args in
    c.decimal_in.ensures ∙ number-leads a.top (between a.s.now a.from a.to) (sym c.if-leads_in.true ∙ c.leads_in.ensures)

pub returns : goal.returns
returns c =
    let a = c.args in
    number-not a.top (between a.s.now a.from a.to) (sym c.if-leads_in.false ∙ c.leads_in.ensures)
