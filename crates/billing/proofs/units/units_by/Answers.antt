use mathlib.Core.List.{[], map}
use mathlib.Core.Path.{◌≡◌, ap, ◌∙◌}
use Prim.Native.Nat.{◌+◌, ◌-◌}
use native.Mathlib.Omega.{arith}
use Rattle.report.specs.paper.LineAt.{lines_from}
use Rattle.report.specs.paper.Units.{units_with, units}
use Rattle.billing.specs.Shown.{with_block}
use Rattle.billing.proofs.UnitLaws.{units_from, units-next, units_end}
use Rattle.billing.proofs.units.units_by.Goals as goal

pub loop-k-init : goal.loop-k-init
unfolding units
loop-k-init g c =
    let e = c.none-found.ensures in
    let a = c.args in
    let s = a.lines.now in
    let z : a.n - 0 ≡ a.n = omega arith in
    (omega (arith, e.count_value), e.units.long, ap (λ us. units_from g.block s us 0 a.n) e.units.blocks ∙ ap (λ j. units_with [] (map (with_block g.block) (lines_from s 0 j))) z)

pub loop-k-preserved : goal.loop-k-preserved
loop-k-preserved g c =
    let l = c.loop-k in
    let a = c.args in
    let j = c.join-found.ensures in (
      omega (arith, j.count_bound, l.invariant.0),
      j.units.long,
      ap (λ us. units_from g.block a.lines.now us (l.k + 1) a.n) j.units.blocks
          ∙ units-next _ _ _ _ _ _ c.loop-k-test.true (c.requires.1.1.1 _ _ _ c.fields_at.ensures c.block_of.ensures) ∙ l.invariant.2,
    )

pub returns : goal.returns
returns g c =
    let l = c.loop-k in
    record { blocks = units_end _ _ _ l.k _ c.loop-k-test.false ∙ l.invariant.2; few = omega (arith, l.invariant, c.requires); long = l.invariant.1 }
