-- `rule::rule_at`: a row with a quote, CR or LF in a field has no rule.
use mathlib.Core.Path.{ap, sym, ◌∙◌}
use lib.ListN.{drop}
use Rattle.spreadsheet.specs.paper.RowRules.{rule_of}
use Rattle.spreadsheet.specs.code.RowSeen.{row_seen, row_within}
use Rattle.spreadsheet.specs.declared.row.Row.TheVariants.{Four}
use Rattle.spreadsheet.proofs.RuleLaws.{rule_broken, rule_clean, rule_leaves}
use Rattle.spreadsheet.proofs.rule.rule_at.Goals as goal

pub returns-in_default : goal.returns-in_default
returns-in_default c =
    let a = c.args in
    let s = a.s.now in
    (rule_broken ∙ ap (λ x. rule_of (row_seen s x)) (sym c.in_default.is) ∙ ap rule_of c.row_at.ensures.0 ∙ rule_clean (drop a.at s), tt)

pub rule_in-requires : goal.rule_in-requires
rule_in-requires c =
    let w : row_within c.args.s.now c.args.at (Four c.in-Four.q) = rw c.in-Four.is at c.row_at.ensures.1 in
    w.0

pub returns : goal.returns
returns c =
    let a = c.args in
    let s = a.s.now in
    let w : row_within s a.at (Four c.in-Four.q) = rw c.in-Four.is at c.row_at.ensures.1 in (
      c.rule_in.ensures.0 ∙ ap (λ x. rule_of (row_seen s x)) (sym c.in-Four.is) ∙ ap rule_of c.row_at.ensures.0 ∙ rule_clean (drop a.at s),
      rule_leaves s a.at c.in-Four.q.next c.rule_in.result w.1 w.0.next c.rule_in.ensures.1,
    )
