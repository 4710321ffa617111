use mathlib.Core.Path.{◌≡◌, ap, ◌∙◌}
use mathlib.Core.Logic.{inl, inr}
use native.Mathlib.Omega.{arith}
use lib.ListN.{get_or}
use borrow.Author.Tests.{ltb-true}
use Rattle.records.specs.code.Decoded.{no_election}
use Rattle.expressions.proofs.ElectionLaws.{elected_over, electing_none, electing_stored, electing_kept}
use Rattle.expressions.proofs.elections.elect_by_cuts.Goals as goal
use Rattle.expressions.proofs.elections.elect_by_cuts.Goals.{else-e-via-else-e, else-e-via-then-e+else-f-lt64}

pub loop-i-init : goal.loop-i-init
loop-i-init c =
    let s = c in
    electing_none _ _ _ 16 _ _ (omega (arith, s.well_formed)) (omega (arith, s.well_formed)) c.min-i.ensures

pub loop-i-preserved-then-f-lt64 : goal.loop-i-preserved-then-f-lt64
loop-i-preserved-then-f-lt64 c =
    let w = c.from-f in
    electing_stored _ _ _ c.loop-i.invariant c.loop-i-test.true _ w.result w.ensures (ltb-true w.result 64 c.if-f-lt64.true-raw) c.if-e.true

pub loop-i-preserved : goal.loop-i-preserved
loop-i-preserved c =
    let w = c.from-f in
    electing_kept _ _ _ c.loop-i.invariant c.loop-i-test.true _
    (λ f h. (elim c.else-e.branch [ else-e-via-then-e+else-f-lt64 x ↦ inr (λ q. let z : w.result ≡ f = w.ensures ∙ q in omega (arith, x.if-f-lt64.false)) | else-e-via-else-e x ↦ inl x.if-e.false ]))

pub returns : goal.returns
returns c = λ f h.
    let l = c.loop-i in
    let a = c.args in
    let empty : l.i ≡ 0 = omega (arith, c.loop-i-test.false) in
    l.invariant.first f h ∙ ap (elected_over (λ x. x.election) a.cuts.items a.cuts.count f (get_or a.elected.items f no_election)) empty
