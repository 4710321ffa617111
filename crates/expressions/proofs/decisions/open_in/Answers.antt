use mathlib.Core.Path.{sym, ◌∙◌}
use mathlib.Core.List.{append-nil, append_assoc}
use native.Mathlib.Omega.{arith}
use Rattle.records.specs.code.Decoded.{decisions_of}
use Rattle.expressions.specs.paper.Influence.{open_in}
use Rattle.expressions.proofs.OpenLaws.{open_yes, open_no, room}
use Rattle.expressions.proofs.decisions.open_in.Goals as goal
use Rattle.expressions.proofs.decisions.open_in.Goals.{else-contains, then-contains}

pub loop-e-init : goal.loop-e-init
unfolding open_in
loop-e-init c = sym (append-nil _)

pub push-requires : goal.push-requires
push-requires c =
    let a = c.args in
    let says = sym (c.contains.ensures ∙ c.edges_with-unresolved.ensures c.loop-e.e (omega arith)) ∙ c.if-contains.true in
    room a.found c.loop-e.out (decisions_of a.decisions) a.c c.loop-e.e a.edges c.loop-e.invariant says c.loop-e-test.true c.requires.1

pub loop-e-preserved : goal.loop-e-preserved
loop-e-preserved c =
    let a = c.args in
    let told = sym (c.contains.ensures ∙ c.edges_with-unresolved.ensures c.loop-e.e (omega arith)) in
    (elim c.if-contains.branch [
      | then-contains w ↦ rw (w.out-is, w.push.ensures, c.loop-e.invariant, open_yes (decisions_of a.decisions) a.c c.loop-e.e (told ∙ w.if-contains.true)) (simp append_assoc)
      | else-contains w ↦ rw (w.out-is, open_no (decisions_of a.decisions) a.c c.loop-e.e (told ∙ w.if-contains.false)) c.loop-e.invariant
    ])
