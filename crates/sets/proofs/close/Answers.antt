use mathlib.Core.Path.{refl, sym, ap, ◌∙◌}
use Rattle.sets.specs.paper.Sets.{close_of}
use Rattle.sets.proofs.Closing.{left-drop, close_pass, close_same, fixed_closed}
use Rattle.sets.proofs.SetLaws.{along}
use Rattle.sets.proofs.close.Goals as goal

pub loop-m-init : goal.loop-m-init
loop-m-init c = refl

pub returns-then-next-m : goal.returns-then-next-m
returns-then-next-m c =
    let l = c in
    let ss = l.args.sets.now in
    sym (close_same ss l.loop-m.m (fixed_closed ss l.loop-m.m (sym c.pass-next.ensures ∙ c.if-next-m.true))) ∙ l.loop-m.invariant

pub loop-m-smaller : goal.loop-m-smaller
loop-m-smaller c =
    let l = c in
    let ss = l.args.sets.now in
    left-drop ss l.loop-m.m c.pass-next.result (λ e. c.if-next-m.false (c.pass-next.ensures ∙ e)) (along (sym c.pass-next.ensures))

pub loop-m-preserved : goal.loop-m-preserved
loop-m-preserved c =
    let l = c in
    let ss = l.args.sets.now in
    ap (close_of ss) c.pass-next.ensures ∙ close_pass ss l.loop-m.m ∙ l.loop-m.invariant
