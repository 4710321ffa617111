-- `rule::edge_in`: three numbers, one after another.
use mathlib.Core.Path.{refl, ap, sym, ◌∙◌}
use lib.ListN.{drop}
use Rattle.spreadsheet.specs.code.FieldSeen.{between}
use Rattle.spreadsheet.specs.code.NumberSeen.{number_seen}
use Rattle.spreadsheet.proofs.RuleLaws.{edge-left, edge-right, edge-citation, edge_is}
use Rattle.spreadsheet.proofs.rule.edge_in.Goals as goal

pub returns-in_default : goal.returns-in_default
returns-in_default c =
    let a = c.args in
    let s = a.s.now in
    let q = a.q in
    let l = between s q.left q.left_end in
    let r = between s q.right q.right_end in
    let z = between s q.citation q.citation_end in
    let rest = drop q.next s in
    (edge-left a.combination l r z rest (ap number_seen (sym c.in_default.is) ∙ c.number_in.ensures), tt)

pub returns-in_default-number_in : goal.returns-in_default-number_in
returns-in_default-number_in c =
    let a = c.args in
    let s = a.s.now in
    let q = a.q in
    let l = between s q.left q.left_end in
    let r = between s q.right q.right_end in
    let z = between s q.citation q.citation_end in
    let rest = drop q.next s in
    (edge-right a.combination l r z rest (ap number_seen (sym c.in_default-number_in.is) ∙ c.number_in-2.ensures), tt)

pub returns-in_default-number_in-2 : goal.returns-in_default-number_in-2
returns-in_default-number_in-2 c =
    let a = c.args in
    let s = a.s.now in
    let q = a.q in
    let l = between s q.left q.left_end in
    let r = between s q.right q.right_end in
    let z = between s q.citation q.citation_end in
    let rest = drop q.next s in
    (edge-citation a.combination l r z rest (ap number_seen (sym c.in_default-number_in-2.is) ∙ c.number_in-3.ensures), tt)

pub returns : goal.returns
returns c =
    let a = c.args in
    let s = a.s.now in
    let q = a.q in
    let l = between s q.left q.left_end in
    let r = between s q.right q.right_end in
    let z = between s q.citation q.citation_end in
    let rest = drop q.next s in
    (edge_is a.combination l r z rest _ _ _ (ap number_seen (sym c.in-Is.is) ∙ c.number_in.ensures) (ap number_seen (sym c.in-Is-number_in.is) ∙ c.number_in-2.ensures) (ap number_seen (sym c.in-Is-number_in-2.is) ∙ c.number_in-3.ensures), refl)
