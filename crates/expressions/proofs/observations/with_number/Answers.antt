-- `observations::with_number`: a case for each test.
use mathlib.Core.Path.{sym, ap, ◌∙◌}
use mathlib.Core.Bool.{Bool, ◌&&◌, ◌||◌, and-false, or-false, and-true}
use native.Mathlib.Omega.{arith}
use lib.Dec.{eqb}
use borrow.Author.Tests.{not-true, not-false, ne_eqb}
use Rattle.sets.specs.paper.Sets.{has}
use Rattle.sets.proofs.SetLaws.{has-union, has_one}
use Rattle.expressions.proofs.observations.with_number.Goals as goal

pub returns-then-not-said : goal.returns-then-not-said
returns-then-not-said c = λ f h.
    let a = c.args in
    sym (ap (λ (b : Bool). has a.m f || (eqb a.number f && b)) (not-true a.said c.if-not-said.true-raw) ∙ ap (λ (b : Bool). has a.m f || b) (and-false (eqb a.number f)) ∙ or-false (has a.m f))

pub returns-then-number-ge64 : goal.returns-then-number-ge64
returns-then-number-ge64 c = λ f h.
    let a = c.args in
    sym (ap (λ (b : Bool). has a.m f || (b && a.said)) (ne_eqb a.number f (λ q. omega (arith, c.if-number-ge64.true, h, q))) ∙ or-false (has a.m f))

pub returns : goal.returns
returns c = λ f h.
    let a = c.args in
    ap (λ (m : _). has m f) c.union.ensures ∙ has-union a.m c.bit.result f
    ∙ ap (λ (b : Bool). has a.m f || b) (ap (λ (m : _). has m f) c.bit.ensures ∙ has_one a.number f ∙ sym (ap (λ (b : Bool). eqb a.number f && b) (not-false a.said c.if-not-said.false-raw) ∙ and-true (eqb a.number f)))
