use Rattle.records.specs.code.Decoded.{boolean_of}
use Rattle.expressions.specs.paper.Bindings.{observed_in_booleans}
use Rattle.expressions.specs.code.Sight.{look_all}
use Rattle.expressions.proofs.SeenLaws.{looking_none, looking_next, looking_past, looking_end}
use native.Mathlib.Omega.{arith}
use Rattle.expressions.proofs.observations.look_in_booleans.Goals as goal
use Rattle.expressions.proofs.observations.look_in_booleans.Goals.{else-f-lt64, then-f-lt64}

pub loop-i-init : goal.loop-i-init
loop-i-init c = looking_none (omega (arith, c.well_formed)) (omega (arith, c.well_formed)) c.min-n.ensures

pub loop-i-preserved : goal.loop-i-preserved
unfolding boolean_of look_all
loop-i-preserved c =
    let w = c.loop-i.invariant in
    let taken = c.loop-i-test.true in
    let lies = c.from-f.ensures in
    (elim c.if-f-lt64.branch [ then-f-lt64 x ↦ rw x.s-is (looking_next w taken _ _ _ lies x.if-f-lt64.true x.look_all-more.ensures) | else-f-lt64 x ↦ rw x.s-is (looking_past w taken _ _ lies x.if-f-lt64.false) ])

pub returns : goal.returns
unfolding observed_in_booleans
returns c = looking_end c.loop-i.invariant c.loop-i-test.false
