use Prim.Native.Nat.{◌+◌}
use mathlib.Core.Path.{◌≡◌, refl, sym, ap, ◌∙◌}
use borrow.Author.Rules.{rules}
use lib.ListN.{drop, get_or}
use Rattle.sets.specs.paper.Sets.{pass, absorb}
use Rattle.sets.proofs.Closing.{absorb-zero, absorb_or, pass_step, pass_end}
use Rattle.sets.proofs.pass.Goals as goal
use Rattle.sets.proofs.pass.Goals.{else-s-m-ne0, then-s-m-ne0}

pub loop-s-init : goal.loop-s-init
loop-s-init c = (search rules, refl)

pub loop-s-preserved : goal.loop-s-preserved
loop-s-preserved c =
    let l = c in
    let ss = l.args.sets.now in
    let s = get_or ss l.loop-s.s-index 0 in
    let step : c.if-s-m-ne0.m ≡ absorb s l.loop-s.m =
    (elim c.if-s-m-ne0.branch [ then-s-m-ne0 w ↦ w.m-is ∙ sym (absorb_or s l.loop-s.m w.if-s-m-ne0.true) | else-s-m-ne0 w ↦ w.m-is ∙ sym (absorb-zero s l.loop-s.m w.if-s-m-ne0.false) ]) in
    (search rules, ap (pass (drop (l.loop-s.s-index + 1) ss)) step ∙ sym (pass_step ss l.loop-s.s-index l.loop-s.m (search rules)) ∙ l.loop-s.invariant.1)

pub returns : goal.returns
returns c = sym (pass_end c.args.sets.now c.loop-s.s-index c.loop-s.m (search rules)) ∙ c.loop-s.invariant.1
