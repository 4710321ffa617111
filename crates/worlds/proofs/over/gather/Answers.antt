use mathlib.Core.Path.{refl, sym, ap, ◌∙◌}
use native.Mathlib.Omega.{arith}
use Rattle.sets.specs.paper.Sets.{union, members}
use Rattle.sets.proofs.UnionLaws.{none-union, union-first, union_end}
use Rattle.worlds.specs.code.Over.{entry}
use Rattle.sets.proofs.TurnLaws.{members-none}
use Rattle.worlds.proofs.over.gather.Goals as goal

pub loop-i-init : goal.loop-i-init
loop-i-init c = rw c.into_iter-i-iterator.ensures.into_iter_gives (c.ranges.set.fits, none-union _)

pub loop-i-preserved : goal.loop-i-preserved
unfolding union
loop-i-preserved c =
    let s = c.in-Some.ensures.steps in
    let table = c.args.table.now in (
      omega (arith, s.rest.1),
      union-first (entry table) c.loop-i.all _ _ _ _ _ s.rest.0 refl (ap (entry table) s.first.0) ∙ c.loop-i.invariant.1,
    )

pub returns : goal.returns
returns c =
    sym (union_end (entry c.args.table.now) c.loop-i.all (members c.loop-i.i-iterator.0) (members-none _ c.in-None.ensures.steps.0)) ∙ c.loop-i.invariant.1
