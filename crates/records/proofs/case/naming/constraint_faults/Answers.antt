use mathlib.Core.Path.{◌≡◌, sym, ap, ◌∙◌}
use native.Mathlib.Nat.{min-le_left, min-le_right}
use native.Mathlib.Omega.{arith}
use lib.ListN.{length, length-take, take, get_or}
use lib.Seq.{get_or-take}
use lib.Dec.{ltb}
use borrow.Author.Tests.{lt-ltb, le-ltb}
use Rattle.records.specs.code.CaseNamed.{constraint_faults}
use Rattle.records.proofs.FaultLaws.{none_yet, item_faulty, item-sound, items_end}
use Rattle.records.proofs.case.naming.constraint_faults.Goals as goal

pub loop-k-init : goal.loop-k-init
loop-k-init c =
    let x = c.args.constraints in
    let long : length x.items ≡ 16 = omega (arith, c.well_formed) in
    let e = c.min-count.ensures in
    (omega arith, omega (arith, e, min-le_right x.count 16), omega (arith, e, min-le_left x.count 16), e ∙ sym (length-take x.count x.items ∙ rw long), λ P C h. none_yet c.args.first (constraint_faults P x) C)

pub returns-then-from-nodes : goal.returns-then-from-nodes
returns-then-from-nodes c =
    let a = c.args in let l = c.loop-k in
    let y = get_or a.constraints.items l.k 0 in
    let w : c.from.result ≡ y = c.from.ensures in λ P C e.
    item_faulty (λ i. ltb i (length P.nodes)) (take a.constraints.count a.constraints.items) a.first C l.k (l.invariant.4 P C e) y 0 (get_or-take a.constraints.count a.constraints.items l.k 0 (omega (arith, l.invariant.2, c.loop-k-test.true))) (omega (arith, l.invariant.3, c.loop-k-test.true))
    (ap (ltb y) (sym e) ∙ le-ltb y a.nodes (omega (arith, c.if-from-nodes.true, w)))

pub loop-k-preserved : goal.loop-k-preserved
loop-k-preserved c =
    let a = c.args in let l = c.loop-k in
    let y = get_or a.constraints.items l.k 0 in
    let w : c.from.result ≡ y = c.from.ensures in (
      omega arith,
      l.invariant.1,
      l.invariant.2,
      l.invariant.3,
      λ P C e.
          item-sound (λ i. ltb i (length P.nodes)) (take a.constraints.count a.constraints.items) a.first C l.k (l.invariant.4 P C e) y 0 (get_or-take a.constraints.count a.constraints.items l.k 0 (omega (arith, l.invariant.2, c.loop-k-test.true))) (omega (arith, l.invariant.3, c.loop-k-test.true))
          (ap (ltb y) (sym e) ∙ lt-ltb y a.nodes (omega (arith, c.if-from-nodes.false, w))),
    )

pub returns : goal.returns
returns c =
    let a = c.args in let l = c.loop-k in λ P C e.
    items_end (λ i. ltb i (length P.nodes)) (take a.constraints.count a.constraints.items) a.first C l.k (l.invariant.4 P C e) (omega (arith, l.invariant.3, c.loop-k-test.false))
