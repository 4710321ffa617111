-- `pool`: the answer as it is, or turned away, or its lines' pools.
use mathlib.Core.Path.{ap}
use native.Mathlib.Omega.{arith}
use Rattle.report.specs.paper.Operations.{told}
use Rattle.report.proofs.FewLines.{lines-few}
use Rattle.pooling.proofs.GivenLaws.{given_other, given_away, given-pooled}
use Rattle.pooling.proofs.pool.Goals as goal

pub returns-then-amounts-n : goal.returns-then-amounts-n
returns-then-amounts-n c =
    let a = c.args in
    let z = c.if-amounts-n.true in
    given_away a.plan.now a.case.now a.amounts.now _ _ _ _ _ c.answer-found.ensures _ _ _ c.in-Answered.is (λ e. omega (arith, z, e)) c.answer-found.auto.lines c.answer-found.auto.events c.turned_away.ensures

pub pools_of-requires : goal.pools_of-requires
pools_of-requires c =
    let a = c.args in
    let few = lines-few a.plan.now a.case.now _ _ _ _ _ c.answer-found.ensures c.answer-found.auto.lines in
    let n = ap (λ x. (told x).lines) c.in-Answered.is in
    let z = c.if-amounts-n.false in
    (omega (arith, few.0, n), omega (arith, few.1, n), omega (arith, z))

pub returns-else-amounts-n : goal.returns-else-amounts-n
returns-else-amounts-n c =
    let a = c.args in
    let z = c.if-amounts-n.false in
    given-pooled a.plan.now a.case.now a.amounts.now _ _ _ _ _ c.answer-found.ensures _ _ _ c.in-Answered.is (omega (arith, z)) _ c.pools_of.ensures

pub returns-in_default : goal.returns-in_default
returns-in_default c =
    let a = c.args in
    let u = c.unpooled.ensures in
    given_other a.plan.now a.case.now a.amounts.now _ _ _ _ _ c.answer-found.ensures c.in_default.not-Answered _ _ u.0 u.1
