-- `decisions::decision_touches`: the open decisions name cuts and edges of the plan.
use mathlib.Core.Path.{refl}
use native.Mathlib.Omega.{arith}
use Rattle.records.specs.code.Decoded.{plan_of}
use Rattle.expressions.specs.paper.Influence.{open_decisions}
use Rattle.expressions.proofs.FitLaws.{edges_fit}
use Rattle.expressions.proofs.OpenLaws.{opens-number, open_few, all_named, open_touches}
use Rattle.expressions.proofs.decisions.decision_touches.Goals as goal

pub touches_over-requires : goal.touches_over-requires
unfolding plan_of
touches_over-requires c =
    let P = plan_of c.args.plan in
    (omega (arith, opens-number c.args.found (open_decisions P) c.requires.1, open_few P, c.requires.0.decision_limit), rw c.requires.1 (all_named P), edges_fit P c.requires.0)

pub returns : goal.returns
unfolding plan_of
returns c =
    let P = plan_of c.args.plan in
    rw (← open_touches P, ← c.requires.1) (c.touches_over.ensures P refl refl)
