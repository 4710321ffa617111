-- `rule::status_in`: the empty field, then two numbers.
use mathlib.Core.Path.{refl, ap, sym, ◌∙◌}
use lib.ListN.{drop}
use Rattle.records.specs.code.Decoded.{status_of}
use Rattle.spreadsheet.specs.code.FieldSeen.{between}
use Rattle.spreadsheet.specs.code.NumberSeen.{number_seen}
use Rattle.spreadsheet.proofs.BetweenLaws.{empty_not, empty_is}
use Rattle.spreadsheet.proofs.RuleLaws.{status-right, status-left, status-citation, status_is}
use Rattle.spreadsheet.proofs.rule.status_in.Goals as goal

pub returns-then-q : goal.returns-then-q
returns-then-q c =
    let a = c.args in
    let s = a.s.now in
    let q = a.q in
    let l = between s q.left q.left_end in
    let r = between s q.right q.right_end in
    let z = between s q.citation q.citation_end in
    let rest = drop q.next s in
    (status-right l r z rest (empty_not s q.right q.right_end c.if-q.true c.requires.right.1), tt)

pub returns-in_default : goal.returns-in_default
returns-in_default c =
    let a = c.args in
    let s = a.s.now in
    let q = a.q in
    let l = between s q.left q.left_end in
    let r = between s q.right q.right_end in
    let z = between s q.citation q.citation_end in
    let rest = drop q.next s in
    (status-left l r z rest (ap number_seen (sym c.in_default.is) ∙ c.number_in.ensures), tt)

pub returns-in_default-number_in : goal.returns-in_default-number_in
returns-in_default-number_in c =
    let a = c.args in
    let s = a.s.now in
    let q = a.q in
    let l = between s q.left q.left_end in
    let r = between s q.right q.right_end in
    let z = between s q.citation q.citation_end in
    let rest = drop q.next s in
    (status-citation l r z rest (ap number_seen (sym c.in_default-number_in.is) ∙ c.number_in-2.ensures), tt)

pub returns : goal.returns
unfolding status_of
returns c =
    let a = c.args in
    let s = a.s.now in
    let q = a.q in
    let l = between s q.left q.left_end in
    let r = between s q.right q.right_end in
    let z = between s q.citation q.citation_end in
    let rest = drop q.next s in
    (status_is l r z rest _ _ (empty_is s q.right q.right_end c.if-q.false) (ap number_seen (sym c.in-Is.is) ∙ c.number_in.ensures) (ap number_seen (sym c.in-Is-number_in.is) ∙ c.number_in-2.ensures), refl)
