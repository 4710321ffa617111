use mathlib.Core.Path.{sym, ap, ◌∙◌}
use mathlib.Core.Bool.{Bool}
use Prim.Native.Nat.{ℕ}
use native.Mathlib.Omega.{arith}
use lib.ListN.{get_or}
use Rattle.sets.specs.paper.Sets.{only}
use Rattle.billing.specs.paper.Pools.{Share}
use Rattle.billing.proofs.PoolLaws.{shares_added, shares-ended}
use Rattle.billing.proofs.pools.sum_where.Goals as goal
use Rattle.billing.proofs.pools.sum_where.Goals.{then-test, else-test}

pub loop-k-preserved : goal.loop-k-preserved
loop-k-preserved g c =
    let a = c.args in
    let l = c.loop-k in
    let f : Share → ℕ = λ x. only (g.passes x.line) x.cents in
    let passed = c.requires.1.1.1 _ _ _ c.fields_at.ensures c.test.ensures in
    let counted : Bool → ℕ = λ b. only b (get_or a.amounts.now l.k 0) in
    elim c.if-test.branch [
      | then-test w ↦
          let e = shares_added f a.lines.now a.amounts.now l.k a.n l.sum _ c.loop-k-test.true (omega (arith, c.requires)) (w.from-sum.ensures ∙ ap counted (sym w.if-test.true ∙ passed)) in
          (omega arith, omega (arith, e, l.invariant.1))
      | else-test w ↦
          let e = shares_added f a.lines.now a.amounts.now l.k a.n l.sum 0 c.loop-k-test.true (omega (arith, c.requires)) (ap counted (sym w.if-test.false ∙ passed)) in
          (omega arith, omega (arith, e, l.invariant.1))
    ]

pub returns : goal.returns
returns g c = shares-ended _ _ _ c.loop-k.k _ _ c.loop-k-test.false ∙ c.loop-k.invariant.1
