use mathlib.Core.Path.{refl, ap, ◌∙◌}
use mathlib.Core.Bool.{false}
use Prim.Native.Nat.{◌≤◌, ◌<◌, zero-le}
use native.Mathlib.Omega.{arith}
use lib.ListN.{length}
use borrow.Author.Rules.{rules}
use Rattle.report.specs.paper.LineAt.{lines_from}
use Rattle.report.specs.paper.Units.{units as units_of}
use Rattle.billing.specs.paper.Pools.{shares, pool_of, mark_of}
use Rattle.billing.proofs.UnitLaws.{units-count, units-entry}
use Rattle.billing.proofs.LaidLaws.{made-next, made_all, laid_is}
use Rattle.billing.proofs.pools.pools_of.Goals as goal

pub loop-i-init : goal.loop-i-init
loop-i-init c = (zero-le, refl, refl, refl)

pub loop-i-preserved : goal.loop-i-preserved
loop-i-preserved c =
    let l = c.loop-i in
    let u = c.units_of-units in
    let a = c.args in
    let ls = lines_from a.lines.now 0 a.n in
    let us = units_of ls in
    let t = c.loop-i-test.true in
    let k = units-count us u.result u.ensures in
    let e = units-entry us u.result u.ensures l.i t in
    let h : l.i < length us = omega (arith, t, k) in
    let f : length us ≤ 64 = let g = u.ensures.few in omega (arith, k, g) in (
      search rules,
      made-next 0 (λ b. b) us 0 l.i _ _ h f l.invariant.1 e,
      made-next 0 (pool_of (shares ls a.amounts.now)) us 0 l.i _ _ h f l.invariant.2 (c.pool_of.ensures ∙ ap (pool_of _) e),
      made-next false (mark_of ls) us 0 l.i _ _ h f l.invariant.3 (c.mark_of.ensures ∙ ap (mark_of ls) e),
    )

pub returns : goal.returns
returns c =
    let l = c.loop-i in
    let u = c.units_of-units in
    let a = c.args in
    let ls = lines_from a.lines.now 0 a.n in
    let us = units_of ls in
    let k = units-count us u.result u.ensures in
    let t = c.loop-i-test.false in
    let h : length us ≤ l.i = omega (arith, t, k) in
    laid_is ls a.amounts.now _ _ _ _ _ _ k (l.invariant.1 ∙ made_all 0 (λ b. b) us _ h) (l.invariant.2 ∙ made_all 0 (pool_of _) us _ h) (l.invariant.3 ∙ made_all false (mark_of ls) us _ h) c.unplaced_of.ensures
