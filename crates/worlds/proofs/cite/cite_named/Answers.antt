use mathlib.Core.Path.{sym, subst}
use native.Mathlib.Omega.{arith}
use Rattle.sets.specs.paper.Sets.{meet, meets, only}
use Rattle.worlds.specs.code.Over.{entry}
use Rattle.worlds.specs.code.Citing.{CitesIn}
use Rattle.worlds.proofs.CiteLaws.{left_all, left-turn, left-none}
use Rattle.worlds.proofs.CiteTurns.{named_none}
use Rattle.worlds.proofs.cite.cite_named.Goals as goal

pub loop-i-init : goal.loop-i-init
loop-i-init c = rw c.into_iter-i-iterator.ensures.into_iter_gives (left_all _ _ _ _)

pub loop-i-preserved-then-held-ne0 : goal.loop-i-preserved-then-held-ne0
unfolding meet
loop-i-preserved-then-held-ne0 c = left-turn c.loop-i.invariant c.in-Some.ensures.steps c.cite_at.ensures

pub loop-i-preserved : goal.loop-i-preserved
unfolding meet
loop-i-preserved c =
    let i = c.in-Some.i in
    left-turn c.loop-i.invariant c.in-Some.ensures.steps
    (named_none c.args.blocks.now c.loop-i.cited (meet (entry c.args.named.now i) c.args.persons) (entry c.args.citations.now i) c.if-held-ne0.false)

pub returns : goal.returns
returns c = left-none c.in-None.ensures.steps.0 c.loop-i.invariant
