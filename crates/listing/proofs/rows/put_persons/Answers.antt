use mathlib.Core.Path.{refl, ◌∙◌}
use mathlib.Core.Bool.{false}
use Rattle.listing.proofs.PersonLaws.{turn_put, none_put, all_put}
use Rattle.listing.proofs.rows.put_persons.Goals as goal

pub loop-p-init : goal.loop-p-init
loop-p-init c = rw c.into_iter-p-iterator.ensures.into_iter_gives

pub loop-p-preserved : goal.loop-p-preserved
loop-p-preserved c =
    let s = c.in-Some.ensures.steps in
    turn_put _ _ c.loop-p.first false c.in-Some.p c.loop-p.p-iterator.0 c.next.new.self.0 s.first.0 s.rest.0 c.put_person-next.ensures refl ∙ c.loop-p.invariant

pub returns-then-first : goal.returns-then-first
returns-then-first c = none_put _ _ _ c.loop-p.first c.loop-p.p-iterator.0 c.in-None.ensures.steps.0 c.if-first.true c.put.ensures c.loop-p.invariant

pub returns : goal.returns
returns c = all_put _ _ c.loop-p.first c.loop-p.p-iterator.0 c.in-None.ensures.steps.0 c.if-first.false c.loop-p.invariant
