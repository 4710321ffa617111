-- `pairs::write_pairs`: the events of the sets passed are written.
use mathlib.Core.Path.{◌≡◌}
use mathlib.Core.Bool.{true}
use mathlib.Core.List.{List}
use Prim.Native.Nat.{ℕ, ◌<◌}
use Rattle.sets.specs.paper.Sets.{has}
use Rattle.worlds.specs.code.Over.{entry}
use Rattle.worlds.specs.paper.Events.{event, listed}
use Rattle.report.specs.declared.event.Event.{Event}
use Rattle.report.specs.code.EventBytes.{Below}
use Rattle.report.proofs.EventLaws.{Pairing}
use Rattle.report.proofs.pairs.write_pairs.Given as goal

abbrev pub invariant-loop-c : goal.invariant-loop-c
invariant-loop-c g l =
    Pairing
    (λ (x : (k : ℕ) × (h : ℕ → ℕ → List ℕ) × ((c : ℕ) → Below (entry l.sets c) k)
    × ((c d : ℕ) (e : Event) → c < l.n → has (entry l.sets c) d ≡ true → goal.F-post g l.make c d e → event e.kind e.a e.b e.c e.mask ≡ h c d)) c.
    listed x.0 (has (entry l.sets c)) (x.1 c))
    l.at (entry l.sets) l.initial.events l.c-counter l.place l.events
