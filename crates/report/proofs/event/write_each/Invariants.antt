-- `event::write_each`: the events of the numbers left, put behind those written, make the whole.
use mathlib.Core.Path.{◌≡◌}
use mathlib.Core.Bool.{true}
use mathlib.Core.List.{List}
use Prim.Native.Nat.{ℕ, ◌<◌}
use Rattle.sets.specs.paper.Sets.{has}
use Rattle.worlds.specs.paper.Events.{event}
use Rattle.report.specs.paper.EventList.{event_length}
use Rattle.report.specs.declared.event.Event.{Event}
use Rattle.report.proofs.PieceLaws.{Writing}
use Rattle.report.proofs.event.write_each.Given as goal

abbrev pub invariant-loop-i : goal.invariant-loop-i
invariant-loop-i g l =
    Writing event_length
    (λ (x : (f : ℕ → List ℕ) × ((i : ℕ) (e : Event) → i < 64 → has l.set i ≡ true → goal.F-post g l.make i e → event e.kind e.a e.b e.c e.mask ≡ f i)). x.0)
    l.at l.set l.initial.events l.i-iterator.0 l.place l.events
