use mathlib.Core.Path.{refl, sym, ap, ◌∙◌}
use mathlib.Core.Bool.{Bool, not}
use native.Mathlib.Omega.{arith}
use lib.Seq.{length-take-le}
use Rattle.records.specs.code.Check.{checked_of}
use Rattle.records.specs.paper.Fields.{fault}
use Rattle.records.specs.code.Decoded.{family_of}
use Rattle.expressions.proofs.FaultLaws.{judging_none, judging_twice, judging_stop, judging_next, judging_end, families-whole}
use Rattle.expressions.proofs.bindable.family_faults.Goals as goal

pub loop-i-init : goal.loop-i-init
loop-i-init c = judging_none (omega (arith, c.well_formed)) refl c.min-n.ensures

pub slice_bounds-earlier-end : goal.slice_bounds-earlier-end
slice_bounds-earlier-end c = omega (arith, c.loop-i.invariant.room, c.loop-i-test.true, c.min-n.ensures)

pub slice_bounds-appears-end : goal.slice_bounds-appears-end
slice_bounds-appears-end c = sym (length-take-le _ _ (omega (arith, c.loop-i.invariant.room, c.loop-i-test.true, c.min-n.ensures)))

pub returns-then-appears : goal.returns-then-appears
unfolding checked_of family_of
returns-then-appears c =
    let w = c.loop-i.invariant in
    let l = c.loop-i-test.true in
    judging_stop w l _ 5 (λ z. absurd (omega (arith, z))) (ap (λ (b : Bool). fault 5 (not b)) (sym (judging_twice w l _ c.appears.ensures) ∙ c.if-appears.true)) ∙ families-whole _ _

pub loop-i-preserved : goal.loop-i-preserved
unfolding family_of
loop-i-preserved c =
    let w = c.loop-i.invariant in
    let l = c.loop-i-test.true in
    judging_next w l _ (ap (λ (b : Bool). fault 5 (not b)) (sym (judging_twice w l _ c.appears.ensures) ∙ c.if-appears.false))

pub returns : goal.returns
unfolding checked_of
returns c = judging_end c.loop-i.invariant c.loop-i-test.false ∙ families-whole _ _
