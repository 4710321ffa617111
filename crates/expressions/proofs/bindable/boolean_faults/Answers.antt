use mathlib.Core.Path.{◌≡◌, refl, sym, ◌∙◌}
use mathlib.Core.Bool.{false}
use mathlib.Core.List.{[]}
use native.Mathlib.Omega.{arith}
use lib.ListN.{get_or}
use lib.Seq.{length-take-le}
use Rattle.records.specs.code.Check.{checked_of}
use Rattle.records.specs.declared.case.Boolean.{Boolean}
use Rattle.records.specs.code.Decoded.{boolean_of}
use Rattle.expressions.proofs.FaultLaws.{boolean_judge, twice, judge_tests, judging_none, judging_twice, judging_stop, judging_next, judging_end, booleans-whole}
use Rattle.expressions.proofs.bindable.boolean_faults.Goals as goal

abbrev none : Boolean
none = record { fact = 0; unknown = false; evidence = 0; observations = record { count = 0; values = []; evidence = [] } }

pub loop-i-init : goal.loop-i-init
loop-i-init c = judging_none (omega (arith, c.well_formed)) refl c.min-n.ensures

-- as many facts are kept as there are places
pub slice_bounds-earlier-end : goal.slice_bounds-earlier-end
slice_bounds-earlier-end c = omega (arith, c.loop-i.invariant.room, c.loop-i-test.true, c.min-n.ensures)

pub slice_bounds-appears-end : goal.slice_bounds-appears-end
slice_bounds-appears-end c = sym (length-take-le _ _ (omega (arith, c.loop-i.invariant.room, c.loop-i-test.true, c.min-n.ensures)))

pub returns-then-number-ne0 : goal.returns-then-number-ne0
unfolding checked_of boolean_of
returns-then-number-ne0 c =
    let w = c.loop-i.invariant in
    let l = c.loop-i-test.true in
    -- the record that is looked at
    let b = boolean_of (get_or c.args.booleans.items c.loop-i.i none) in
    -- the number told is the record's fault
    let told : boolean_judge (twice w l none) b ≡ c.fault_of-number.result =
    judge_tests (twice w l none) b c.clashes.ensures (judging_twice w l none c.appears.ensures) ∙ sym c.fault_of-number.ensures in
    judging_stop w l none c.fault_of-number.result c.if-number-ne0.true told ∙ booleans-whole _ _

pub loop-i-preserved : goal.loop-i-preserved
unfolding boolean_of
loop-i-preserved c =
    let w = c.loop-i.invariant in
    let l = c.loop-i-test.true in
    let b = boolean_of (get_or c.args.booleans.items c.loop-i.i none) in
    let told : boolean_judge (twice w l none) b ≡ c.fault_of-number.result =
    judge_tests (twice w l none) b c.clashes.ensures (judging_twice w l none c.appears.ensures) ∙ sym c.fault_of-number.ensures in
    judging_next w l none (told ∙ c.if-number-ne0.false)

pub returns : goal.returns
unfolding checked_of
returns c = judging_end c.loop-i.invariant c.loop-i-test.false ∙ booleans-whole _ _
