-- `make::common_of`: each mask has the numbers of its kind; of the edges the Base ones, where no chain is cited.
use mathlib.Core.Path.{refl, ◌∙◌}
use native.Mathlib.Omega.{arith}
use Rattle.records.specs.code.Decoded.{plan_of}
use Rattle.expressions.specs.paper.Rules.{edge_count, edge, chained}
use Rattle.worlds.proofs.PlanAt.{edge-count, attachment-count, bar-count, status-count}
use Rattle.worlds.proofs.MakeLaws.{kind-has, chained_is, base-has, base-none}
use Rattle.worlds.proofs.make.common_of.Goals as goal
use Rattle.worlds.proofs.make.common_of.Goals.{else-plan, then-plan}

pub returns : goal.returns
unfolding plan_of
returns c =
    let P = plan_of c.args.plan in
    let cited = chained_is c.args.plan c.requires in
    let edges = edge-count c.args.plan.edges c.min.result (omega (arith, c.well_formed)) c.min.ensures P refl in
    record {
      people = refl;
      base = λ e. (elim c.if-plan.branch [
        | then-plan w ↦ base-none _ (edge_count P) e (edge P e).combination (chained P) w.result-is (cited ∙ w.if-plan.true)
        | else-plan w ↦ base-has _ _ _ (edge_count P) e (edge P e).combination (chained P) (kind-has _ _ _ c.numbers_below-all.ensures (omega (arith, c.min.ensures)) edges e)
            (c.combination_edges.ensures.at P refl e) (w.result-is ∙ c.minus-base.ensures) (cited ∙ w.if-plan.false)
      ]);
      attachments = kind-has _ _ _ c.numbers_below.ensures (omega (arith, c.min-2.ensures))
          (attachment-count c.args.plan.attachments _ (omega (arith, c.well_formed)) c.min-2.ensures P refl);
      bars = kind-has _ _ _ c.numbers_below-2.ensures (omega (arith, c.min-3.ensures)) (bar-count c.args.plan.bars _ (omega (arith, c.well_formed)) c.min-3.ensures P refl);
      statuses = kind-has _ _ _ c.numbers_below-3.ensures (omega (arith, c.min-4.ensures)) (status-count c.args.plan.statuses _ (omega (arith, c.well_formed)) c.min-4.ensures P refl);
    }
