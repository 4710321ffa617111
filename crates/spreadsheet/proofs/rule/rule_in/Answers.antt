-- `rule::rule_in`: word after word.
use mathlib.Core.Path.{sym, ◌∙◌}
use lib.ListN.{drop}
use Rattle.spreadsheet.specs.code.FieldSeen.{between}
use Rattle.spreadsheet.proofs.RuleLaws.{rule_base, rule_combination, rule_status, rule_none}
use Rattle.spreadsheet.proofs.rule.rule_in.Goals as goal

pub returns-then-same_in : goal.returns-then-same_in
returns-then-same_in c =
    let a = c.args in
    let s = a.s.now in
    let q = a.q in
    let k = between s q.kind q.kind_end in
    let l = between s q.left q.left_end in
    let r = between s q.right q.right_end in
    let z = between s q.citation q.citation_end in
    let rest = drop q.next s in
    (c.edge_in.ensures.0 ∙ rule_base k l r z rest (sym c.same_in.ensures ∙ c.if-same_in.true), c.edge_in.ensures.1)

pub returns-then-same_in-2 : goal.returns-then-same_in-2
returns-then-same_in-2 c =
    let a = c.args in
    let s = a.s.now in
    let q = a.q in
    let k = between s q.kind q.kind_end in
    let l = between s q.left q.left_end in
    let r = between s q.right q.right_end in
    let z = between s q.citation q.citation_end in
    let rest = drop q.next s in
    (c.edge_in-then-same_in-2.ensures.0 ∙ rule_combination k l r z rest (sym c.same_in.ensures ∙ c.if-same_in.false) (sym c.same_in-2.ensures ∙ c.if-same_in-2.true), c.edge_in-then-same_in-2.ensures.1)

pub returns-then-same_in-3 : goal.returns-then-same_in-3
returns-then-same_in-3 c =
    let a = c.args in
    let s = a.s.now in
    let q = a.q in
    let k = between s q.kind q.kind_end in
    let l = between s q.left q.left_end in
    let r = between s q.right q.right_end in
    let z = between s q.citation q.citation_end in
    let rest = drop q.next s in
    (c.status_in.ensures.0 ∙ rule_status k l r z rest (sym c.same_in.ensures ∙ c.if-same_in.false) (sym c.same_in-2.ensures ∙ c.if-same_in-2.false) (sym c.same_in-3.ensures ∙ c.if-same_in-3.true), c.status_in.ensures.1)

pub returns : goal.returns
returns c =
    let a = c.args in
    let s = a.s.now in
    let q = a.q in
    let k = between s q.kind q.kind_end in
    let l = between s q.left q.left_end in
    let r = between s q.right q.right_end in
    let z = between s q.citation q.citation_end in
    let rest = drop q.next s in
    (rule_none k l r z rest (sym c.same_in.ensures ∙ c.if-same_in.false) (sym c.same_in-2.ensures ∙ c.if-same_in-2.false) (sym c.same_in-3.ensures ∙ c.if-same_in-3.false), tt)
