-- `lay::said_blocked`: what is found are the edges on which one of the decisions passed says blocked.
use mathlib.Core.Path.{◌≡◌}
use mathlib.Core.Bool.{Bool, ◌&&◌}
use Prim.Native.Nat.{ℕ}
use lib.ListN.{get_or}
use lib.Dec.{eqb}
use Rattle.sets.specs.paper.Sets.{has, below, any_of}
use Rattle.records.specs.paper.Plan.{Decision}
use Rattle.records.specs.declared.plan.Decisions.{Decisions}
use Rattle.worlds.proofs.lay.said_blocked.Given as goal

abbrev pub given : Decisions → ℕ → Decision
given d i = record { edge = get_or d.edges i 0; verdict = get_or d.verdicts i 0 }

abbrev pub blocked : ℕ → Decision → Bool
blocked e d = eqb d.edge e && eqb d.verdict 1

abbrev pub invariant-loop-i : goal.invariant-loop-i
invariant-loop-i l = (e : ℕ) → has l.found e ≡ any_of (blocked e) (below l.i (given l.decisions))
