-- `rule::header_in`: word after word.
use mathlib.Core.Path.{sym, ◌∙◌}
use lib.ListN.{drop}
use borrow.Author.Tests.{not-true, not-false}
use Rattle.spreadsheet.specs.code.FieldSeen.{between}
use Rattle.spreadsheet.proofs.RuleLaws.{head_one, head_two, head_three, head_four, head_all}
use Rattle.spreadsheet.proofs.rule.header_in.Goals as goal

pub returns-then-not-same_in : goal.returns-then-not-same_in
returns-then-not-same_in c =
    let a = c.args in
    let s = a.s.now in
    let q = a.q in
    let k = between s q.kind q.kind_end in
    let l = between s q.left q.left_end in
    let r = between s q.right q.right_end in
    let z = between s q.citation q.citation_end in
    let rest = drop q.next s in
    (head_one k l r z rest (sym c.same_in.ensures ∙ not-true c.same_in.result c.if-not-same_in.true-raw), tt)

pub returns-then-not-same_in-2 : goal.returns-then-not-same_in-2
returns-then-not-same_in-2 c =
    let a = c.args in
    let s = a.s.now in
    let q = a.q in
    let k = between s q.kind q.kind_end in
    let l = between s q.left q.left_end in
    let r = between s q.right q.right_end in
    let z = between s q.citation q.citation_end in
    let rest = drop q.next s in
    (head_two k l r z rest (sym c.same_in-2.ensures ∙ not-true c.same_in-2.result c.if-not-same_in-2.true-raw), tt)

pub returns-then-not-same_in-3 : goal.returns-then-not-same_in-3
returns-then-not-same_in-3 c =
    let a = c.args in
    let s = a.s.now in
    let q = a.q in
    let k = between s q.kind q.kind_end in
    let l = between s q.left q.left_end in
    let r = between s q.right q.right_end in
    let z = between s q.citation q.citation_end in
    let rest = drop q.next s in
    (head_three k l r z rest (sym c.same_in-3.ensures ∙ not-true c.same_in-3.result c.if-not-same_in-3.true-raw), tt)

pub returns-then-not-same_in-4 : goal.returns-then-not-same_in-4
returns-then-not-same_in-4 c =
    let a = c.args in
    let s = a.s.now in
    let q = a.q in
    let k = between s q.kind q.kind_end in
    let l = between s q.left q.left_end in
    let r = between s q.right q.right_end in
    let z = between s q.citation q.citation_end in
    let rest = drop q.next s in
    (head_four k l r z rest (sym c.same_in-4.ensures ∙ not-true c.same_in-4.result c.if-not-same_in-4.true-raw), tt)

pub returns : goal.returns
returns c =
    let a = c.args in
    let s = a.s.now in
    let q = a.q in
    let k = between s q.kind q.kind_end in
    let l = between s q.left q.left_end in
    let r = between s q.right q.right_end in
    let z = between s q.citation q.citation_end in
    let rest = drop q.next s in
    (head_all k l r z rest (sym c.same_in.ensures ∙ not-false c.same_in.result c.if-not-same_in.false-raw) (sym c.same_in-2.ensures ∙ not-false c.same_in-2.result c.if-not-same_in-2.false-raw) (sym c.same_in-3.ensures ∙ not-false c.same_in-3.result c.if-not-same_in-3.false-raw) (sym c.same_in-4.ensures ∙ not-false c.same_in-4.result c.if-not-same_in-4.false-raw), (c.requires.1, c.requires.0.next))
