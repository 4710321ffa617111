use mathlib.Core.Path.{refl, sym, ◌∙◌}
use native.Mathlib.Omega.{arith}
use native.Mathlib.Numerals.{add-one}
use borrow.Author.Rules.{rules}
use Rattle.spreadsheet.specs.paper.Quoting.{strange}
use Rattle.spreadsheet.proofs.FieldLaws.{until_none, until_stop, until-on}
use Rattle.spreadsheet.proofs.field.quoted_end.Goals as goal

pub loop-i-init : goal.loop-i-init
loop-i-init c = (search rules, refl)

pub returns-then-strange : goal.returns-then-strange
returns-then-strange c =
    let L = c in
    let a = L.args in
    let z = until_stop strange a.s.now L.loop-i.i c.loop-i-test.true (sym c.strange.ensures ∙ c.if-strange.true) in
    (omega (arith, z, L.loop-i.invariant), search rules)

pub loop-i-preserved : goal.loop-i-preserved
loop-i-preserved c =
    let L = c in
    let a = L.args in
    let z = until-on strange a.s.now L.loop-i.i c.loop-i-test.true (sym c.strange.ensures ∙ c.if-strange.false) in
    (search rules, rw (add-one) (omega (arith, z, L.loop-i.invariant)))

pub returns : goal.returns
returns c =
    let L = c in
    let a = L.args in
    let z = until_none strange a.s.now L.loop-i.i c.loop-i-test.false in
    (omega (arith, z, L.loop-i.invariant), search rules)
