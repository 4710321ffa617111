use mathlib.Core.Path.{◌≡◌, ◌∙◌, ap}
use Prim.Native.Nat.{◌+◌, ◌≤◌, ◌<◌}
use native.Mathlib.Omega.{arith}
use Rattle.records.specs.paper.Plan.{unresolved_in}
use Rattle.records.specs.code.PlanPasses.{decisions_left}
use Rattle.records.proofs.DecisionLaws.{from_all, open_some, open_other, open_done}
use borrow.Author.Rules.{rules}
use Rattle.records.proofs.plan.checks.decisions.unresolved_in.Goals as goal
use Rattle.records.proofs.plan.checks.decisions.unresolved_in.Goals.{else-d-i-eq3, then-d-i-eq3}

pub loop-i-init : goal.loop-i-init
loop-i-init c = let e = ap unresolved_in (from_all c.args.d) in (omega arith, omega arith, omega (arith, e))

pub overflow_add-total : goal.overflow_add-total
overflow_add-total c = let h = c.loop-i.invariant in search (rules, h)

pub loop-i-preserved : goal.loop-i-preserved
loop-i-preserved c =
    let l = c.loop-i in
    let q : l.i < c.args.d.count = omega (arith, c.loop-i-test.true, c.from-n.ensures) in
    let h : (c.if-d-i-eq3.total ≤ l.total + 1) × (c.if-d-i-eq3.total + unresolved_in (decisions_left c.args.d (l.i + 1)) ≡ l.total + unresolved_in (decisions_left c.args.d l.i)) = (elim c.if-d-i-eq3.branch [ then-d-i-eq3 w ↦ open_some c.args.d l.i l.total c.if-d-i-eq3.total q w.if-d-i-eq3.true w.total-is | else-d-i-eq3 w ↦ open_other c.args.d l.i l.total c.if-d-i-eq3.total q w.if-d-i-eq3.false w.total-is ]) in
    (omega arith, omega (arith, h.0, l.invariant.1), h.1 ∙ l.invariant.2)

pub returns : goal.returns
returns c =
    let l = c.loop-i in
    let z = open_done c.args.d l.i (omega (arith, c.loop-i-test.false, c.from-n.ensures)) in
    (omega (arith, z, l.invariant.2), omega (arith, l.invariant.1, l.invariant.0, c.requires, c.from-n.ensures))
