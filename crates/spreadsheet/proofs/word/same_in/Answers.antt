use mathlib.Core.Path.{refl, ◌∙◌}
use native.Mathlib.Omega.{arith}
use Rattle.spreadsheet.proofs.WordLaws.{same_end, same-short, same-long, same-differ, same_step}
use Rattle.spreadsheet.proofs.word.same_in.Goals as goal

pub loop-i-init : goal.loop-i-init
loop-i-init c = (omega arith, (omega arith, (omega arith, refl)))

pub returns-then-j-word : goal.returns-then-j-word
returns-then-j-word c =
    let L = c in
    let a = L.args in
    same-long a.s.now a.word.now L.loop-i.i L.loop-i.j a.to c.loop-i-test.true L.requires.1 c.if-j-word.true ∙ L.loop-i.invariant.1.1.1

pub returns-then-s-i : goal.returns-then-s-i
returns-then-s-i c =
    let L = c in
    let a = L.args in
    same-differ a.s.now a.word.now L.loop-i.i L.loop-i.j a.to c.loop-i-test.true L.requires.1 c.if-j-word.false c.if-s-i.true ∙ L.loop-i.invariant.1.1.1

pub loop-i-preserved : goal.loop-i-preserved
loop-i-preserved c =
    let L = c in
    let a = L.args in
    (omega arith, (omega arith, (omega arith, same_step a.s.now a.word.now L.loop-i.i L.loop-i.j a.to c.loop-i-test.true L.requires.1 c.if-j-word.false c.if-s-i.false ∙ L.loop-i.invariant.1.1.1)))

pub returns-then-j-word-2 : goal.returns-then-j-word-2
returns-then-j-word-2 c =
    let L = c in
    let a = L.args in
    same-short a.s.now a.word.now L.loop-i.i L.loop-i.j a.to c.loop-i-test.false c.if-j-word-2.true ∙ L.loop-i.invariant.1.1.1

pub returns : goal.returns
returns c =
    let L = c in
    let a = L.args in
    same_end a.s.now a.word.now L.loop-i.i L.loop-i.j a.to c.loop-i-test.false c.if-j-word-2.false ∙ L.loop-i.invariant.1.1.1
