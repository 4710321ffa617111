-- `relate::chain`: after so many turns all that are reached in as many steps.
use mathlib.Core.Path.{◌≡◌}
use Rattle.worlds.specs.code.Related.{chain_by}
use Rattle.worlds.proofs.relate.chain.Given as goal

abbrev pub invariant-loop-step : goal.invariant-loop-step
invariant-loop-step l = l.m ≡ chain_by l.direct l._step l.from
