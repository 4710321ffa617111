use mathlib.Core.Bool.{true, false}
use mathlib.Core.Path.{refl, sym, ◌∙◌}
use borrow.Author.Rules.{rules}
use Rattle.expressions.proofs.FamilyLaws.{silent_end, silent_here, silent_other, silent_scope}
use native.Mathlib.Omega.{arith}
use borrow.Author.Tests.{ne_eqb}
use Rattle.expressions.proofs.bindings.silence.Goals as goal
use Rattle.expressions.proofs.bindings.silence.Goals.{else-m-number-via-else-m-number, else-m-number-via-then-m-number+else-m-scope}

pub loop-i-init : goal.loop-i-init
loop-i-init c = (omega (arith, c.well_formed), search rules, refl)

pub returns-then-m : goal.returns-then-m
returns-then-m c =
    let l = c in
    let a = l.args in
    sym (silent_here a.families.items a.families.count a.number a.scope l.loop-i.i _ (search rules) true c.if-m-number.true c.if-m-scope.true-raw c.if-m.true) ∙ l.loop-i.invariant.2

pub returns-then-m-scope : goal.returns-then-m-scope
returns-then-m-scope c =
    let l = c in
    let a = l.args in
    sym (silent_here a.families.items a.families.count a.number a.scope l.loop-i.i _ (search rules) false c.if-m-number.true c.if-m-scope.true-raw c.if-m.false) ∙ l.loop-i.invariant.2

pub loop-i-preserved : goal.loop-i-preserved
loop-i-preserved c =
    let l = c in
    let a = l.args in (
      l.loop-i.invariant.0,
      search rules,
      (elim c.else-m-number.branch [ else-m-number-via-then-m-number+else-m-scope w ↦ sym (silent_scope a.families.items a.families.count a.number a.scope l.loop-i.i _ (search rules) (ne_eqb _ _ w.if-m-scope.false)) | else-m-number-via-else-m-number w ↦ sym (silent_other a.families.items a.families.count a.number a.scope l.loop-i.i _ (search rules) w.if-m-number.false) ]) ∙ l.loop-i.invariant.2,
    )

pub returns : goal.returns
returns c =
    let l = c in
    let a = l.args in
    sym (silent_end a.families.items a.families.count a.number a.scope l.loop-i.i (search rules)) ∙ l.loop-i.invariant.2
