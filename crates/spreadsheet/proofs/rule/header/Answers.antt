-- `rule::header`: a row with a quote, CR or LF in a field is no header.
use mathlib.Core.Path.{ap, sym, ◌∙◌}
use Rattle.spreadsheet.specs.paper.RowRules.{header_of}
use Rattle.spreadsheet.specs.code.RowSeen.{row_seen, row_within}
use Rattle.spreadsheet.specs.declared.row.Row.TheVariants.{Four}
use Rattle.spreadsheet.proofs.RuleLaws.{head_broken, head_clean}
use Rattle.spreadsheet.proofs.rule.header.Goals as goal

pub returns-in_default : goal.returns-in_default
returns-in_default c =
    let a = c.args in
    let s = a.s.now in
    (head_broken ∙ ap (λ x. header_of (row_seen s x)) (sym c.in_default.is) ∙ ap header_of c.row_at.ensures.0 ∙ head_clean s, tt)

pub header_in-requires : goal.header_in-requires
header_in-requires c =
    let w : row_within c.args.s.now 0 (Four c.in-Four.q) = rw c.in-Four.is at c.row_at.ensures.1 in
    w

pub returns : goal.returns
returns c =
    let a = c.args in
    let s = a.s.now in
    (c.header_in.ensures.0 ∙ ap (λ x. header_of (row_seen s x)) (sym c.in-Four.is) ∙ ap header_of c.row_at.ensures.0 ∙ head_clean s, c.header_in.ensures.1)
