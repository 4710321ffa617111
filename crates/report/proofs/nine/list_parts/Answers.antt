use mathlib.Core.Path.{ap}
use Rattle.worlds.specs.code.Over.{entry}
use Rattle.sets.proofs.TurnLaws.{members-none}
use Rattle.report.proofs.NineLaws.{turns_start, turns_next, turns_end}
use Rattle.report.proofs.nine.list_parts.Goals as goal

pub loop-p-init : goal.loop-p-init
loop-p-init c = rw c.into_iter-p-iterator.ensures.into_iter_gives (turns_start _ _ _ _ c.requires)

pub list_part-known-requires : goal.list_part-known-requires
list_part-known-requires c = c.loop-p.invariant.fits

pub loop-p-preserved : goal.loop-p-preserved
loop-p-preserved c =
    let s = c.in-Some.ensures.steps in
    turns_next _ _ _ _ _ _ _ _ _ _ _ _ s.rest.0 (ap (entry c.args.parts.now) s.first.0) c.list_part-known.ensures c.loop-p.invariant

pub returns : goal.returns
returns c = turns_end _ _ _ _ _ _ _ (members-none _ c.in-None.ensures.steps.0) c.loop-p.invariant
