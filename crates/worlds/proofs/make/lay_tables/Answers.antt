-- `make::lay_tables`: what each call lays, the later ones leave, so that at the end all rows stand for the plan.
use mathlib.Core.Path.{refl, sym, ◌∙◌, subst}
use native.Mathlib.Omega.{arith}
use Rattle.sets.specs.paper.Sets.{All}
use Rattle.records.specs.code.Decoded.{plan_of}
use Rattle.expressions.specs.code.Influences.{sets_of}
use Rattle.records.proofs.UsedLaws.{used_take}
use Rattle.worlds.specs.code.Laid.{OpenFits}
use Rattle.worlds.proofs.PlanAt.{cut-count}
use Rattle.worlds.proofs.MakeLaws.{kind-has, edges_fit, cuts_fit, precedes-fit, attachments-fit, bars-fit, statuses-fit, opens-fit, emptied, tables_stand}
use Rattle.worlds.proofs.make.lay_tables.Goals as goal

pub lay_edges-requires : goal.lay_edges-requires
unfolding plan_of
lay_edges-requires c = edges_fit (plan_of c.args.plan) c.requires.sound

pub lay_cuts-requires : goal.lay_cuts-requires
unfolding plan_of
lay_cuts-requires c = cuts_fit (plan_of c.args.plan) c.requires.sound

pub lay_attachments-requires : goal.lay_attachments-requires
unfolding plan_of
lay_attachments-requires c = attachments-fit (plan_of c.args.plan) c.requires.sound

pub lay_bars-requires : goal.lay_bars-requires
unfolding plan_of
lay_bars-requires c = bars-fit (plan_of c.args.plan) c.requires.sound

pub lay_statuses-requires : goal.lay_statuses-requires
unfolding plan_of
lay_statuses-requires c = statuses-fit (plan_of c.args.plan) c.requires.sound

pub lay_decisions-requires : goal.lay_decisions-requires
lay_decisions-requires c = (c.requires.sixteen, subst (All OpenFits) (sym c.requires.opens) (opens-fit (plan_of c.args.plan) c.requires.sound))

pub direct_precedence-requires : goal.direct_precedence-requires
unfolding plan_of
direct_precedence-requires c = precedes-fit (plan_of c.args.plan) c.requires.sound

pub returns : goal.returns
unfolding plan_of sets_of
returns c =
    let several = cut-count c.args.plan.cuts c.min-several.result (omega (arith, c.well_formed)) c.min-several.ensures (plan_of c.args.plan) refl in
    record {
      stands = λ I k e common named.
          tables_stand c.args.plan c.args.undecided c.args.roster _ _ _ _ _ _ _ _ _ _ _ _ _ _ _ _
          c.requires.sound c.requires.opens (λ x. emptied c.args.t.now 9 64 x)
          c.lay_edges.ensures c.lay_cuts.ensures c.lay_attachments.ensures c.lay_bars.ensures c.lay_statuses.ensures c.lay_decisions.ensures
          c.direct_precedence.ensures c.chains.ensures (sym several)
          (kind-has _ _ _ c.numbers_below-all.ensures (omega (arith, c.min-several.ensures)) several)
          c.combination_edges.ensures c.relate_cuts.ensures c.lay_spread.ensures
          I k (used_take _ c.args.groups.count 144 c.min-n.result (omega (arith, c.well_formed)) c.min-n.ensures ∙ c.requires.sets)
          (e ∙ sym (used_take _ c.args.influence.count 80 c.min-k.result (omega (arith, c.well_formed)) c.min-k.ensures)) c.ranges.roster.fits common named;
    }
