-- `decisions::open_decisions`: an accepted plan has at most sixteen.
use native.Mathlib.Omega.{arith}
use Rattle.records.specs.code.Decoded.{plan_of, edge_of}
use Rattle.expressions.specs.paper.Influence.{open_decisions}
use Rattle.expressions.proofs.ListLaws.{made-length}
use Rattle.expressions.proofs.OpenLaws.{all_few}
use Rattle.expressions.proofs.decisions.open_decisions.Goals as goal

pub open_over-requires : goal.open_over-requires
unfolding plan_of
open_over-requires c =
    let es = c.args.plan.edges in
    (omega (arith, c.min.ensures), rw (← made-length edge_of es.items es.count 64 _ (omega (arith, c.well_formed)) c.min.ensures) (all_few (plan_of c.args.plan) c.requires))

pub returns : goal.returns
unfolding plan_of open_decisions
returns c =
    let es = c.args.plan.edges in
    rw (made-length edge_of es.items es.count 64 _ (omega (arith, c.well_formed)) c.min.ensures) c.open_over.ensures
