use mathlib.Core.Path.{◌≡◌}
use native.Mathlib.Omega.{arith}
use Rattle.report.proofs.EventLaws.{pairing_none, pairing_room, pairing_next}
use Rattle.report.proofs.pairs.write_pairs.Goals as goal

pub loop-c-init : goal.loop-c-init
loop-c-init g c = pairing_none _ _ _ _

pub write_each-place-requires-clause-room : goal.write_each-place-requires-clause-room
write_each-place-requires-clause-room g c = pairing_room c.loop-c.invariant _ c.loop-c-test.true c.requires.room

pub write_each-place-requires-clause-made : goal.write_each-place-requires-clause-made
write_each-place-requires-clause-made g c d few h = c.requires.made _ d c.loop-c-test.true few h

pub loop-c-preserved : goal.loop-c-preserved
loop-c-preserved g c =
    let w = c.write_each-place.ensures in
    pairing_next c.loop-c.invariant c.args.n c.write_each-place.result c.write_each-place.new.events c.loop-c-test.true c.requires.room w.place c.write_each-place.auto.events
    (λ x. w.written _ _ (x.2 _) (λ d e few h made. x.3 _ d e c.loop-c-test.true h made))

pub returns-clause-written : goal.returns-clause-written
returns-clause-written g c k h b made =
    let e : c.loop-c.c-counter ≡ c.args.n = omega arith in
    rw e at (c.loop-c.invariant.done (k, h, b, made))

pub returns-clause-place : goal.returns-clause-place
returns-clause-place g c =
    let e : c.loop-c.c-counter ≡ c.args.n = omega arith in
    rw (← e) c.loop-c.invariant.room
