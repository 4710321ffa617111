-- `nine::insert`: an event that stands at its place stays alone; else those from the place on move up.
use mathlib.Core.Path.{◌≡◌}
use Prim.Native.Nat.{◌+◌, ◌-◌, ◌*◌}
use native.Mathlib.Omega.{arith}
use Rattle.report.specs.paper.EventList.{event_length}
use Rattle.report.proofs.SearchLaws.{inserted_known, inserted_new}
use Rattle.report.proofs.nine.insert.Goals as goal

pub returns-in-Ok : goal.returns-in-Ok
returns-in-Ok c = inserted_known _ _ _ _ c.in-Ok.ensures

pub returns-in-Err : goal.returns-in-Err
returns-in-Err c =
    let at = c.in-Err.place * event_length in
    let long : at + event_length - at ≡ event_length = omega arith in
    inserted_new _ _ _ _ (omega (arith, c.well_formed)) c.requires c.in-Err.ensures _
    (rw (long, c.copy_within.ensures.after, c.copy_from_slice.ensures.after))
