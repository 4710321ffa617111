use lib.ListN.{length-take, length-drop}
use native.Mathlib.Omega.{arith}
use Rattle.report.specs.paper.EventList.{event_length}
use Rattle.report.proofs.EventLaws.{event-length, writes_listed}
use Rattle.report.proofs.PieceLaws.{writing_none, writing_has, writing_room, writing_next, writing_place, writing_bytes}
use Rattle.report.proofs.event.write_each.Goals as goal

pub loop-i-init : goal.loop-i-init
loop-i-init g c = rw c.into_iter-i-iterator.ensures.into_iter_gives (writing_none event_length _ _ _ _ c.ranges.set.fits)

pub make-requires : goal.make-requires
make-requires g c =
    let s = c.in-Some.ensures.steps in
    c.requires.made _ s.first.1 (writing_has event_length c.loop-i.invariant _ _ s)

pub write_event-requires : goal.write_event-requires
write_event-requires g c =
    let r = writing_room event_length c.loop-i.invariant _ _ c.in-Some.ensures.steps c.requires.room in
    simp (length-take, length-drop) (omega arith)

pub loop-i-preserved : goal.loop-i-preserved
loop-i-preserved g c =
    let s = c.in-Some.ensures.steps in
    writing_next event_length c.loop-i.invariant _ _ s _ _ (event-length _ _ _ _ _) (writing_room event_length c.loop-i.invariant _ _ s c.requires.room) c.write_event.ensures
    (λ x. x.1 _ _ s.first.1 (writing_has event_length c.loop-i.invariant _ _ s) c.make.ensures)

pub returns-clause-place : goal.returns-clause-place
returns-clause-place g c = writing_place event_length c.loop-i.invariant c.in-None.ensures.steps.0

pub returns-clause-written : goal.returns-clause-written
returns-clause-written g c n f b made =
    let w = c.loop-i.invariant in
    let e = c.in-None.ensures.steps.0 in
    writes_listed f n c.args.at c.args.set c.ranges.set.fits b (writing_bytes event_length w e (f, made)) (writing_place event_length w e)
