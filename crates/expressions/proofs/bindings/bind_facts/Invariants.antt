-- `bindings::bind_facts`: the facts below i have their binding, and those of them that took their default are found.
use Prim.Native.Nat.{◌≤◌}
use mathlib.Core.Path.{◌≡◌}
use lib.ListN.{length}
use Rattle.sets.proofs.MaskLaws.{built}
use Rattle.expressions.proofs.FactLaws.{Filled}
use Rattle.expressions.proofs.ToldLaws.{code_at, default_at_lem}
use Rattle.expressions.proofs.bindings.bind_facts.Given as goal

abbrev pub invariant-loop-i : goal.invariant-loop-i
invariant-loop-i l =
    (length l.codes ≡ 64)
    × (l.i ≤ l.n)
    × Filled (code_at l.set l.facts l.families l.scope l.sights l.unknown l.elections) l.codes l.i
    × (l.defaults ≡ built (default_at_lem l.set l.facts l.sights l.unknown l.elections) l.i)
