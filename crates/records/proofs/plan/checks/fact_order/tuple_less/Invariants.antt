-- Two tuples compared place by place.
use mathlib.Core.Path.{◌≡◌}
use Prim.Native.Nat.{◌-◌, ◌≤◌}
use lib.ListN.{take, drop}
use Rattle.sets.specs.paper.Sets.{lex_less}
use Rattle.records.proofs.plan.checks.fact_order.tuple_less.Given as goal

abbrev pub invariant-loop-i : goal.invariant-loop-i
invariant-loop-i l = (l.i ≤ l.j) × (l.i ≤ l.k) × (lex_less (drop l.i (take l.m l.a)) (drop l.i (take l.n l.b)) ≡ lex_less (take l.m l.a) (take l.n l.b))
