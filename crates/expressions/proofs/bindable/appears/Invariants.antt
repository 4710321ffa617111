-- `bindable::appears`: none of the numbers passed is the one asked for.
use Prim.Native.Nat.{ℕ, ◌≤◌}
use mathlib.Core.Path.{◌≡◌}
use lib.Dec.{eqb}
use lib.ListN.{length, drop}
use Rattle.sets.specs.paper.Sets.{any_of}
use Rattle.expressions.proofs.bindable.appears.Given as goal

abbrev pub invariant-loop-i : goal.invariant-loop-i
invariant-loop-i l = (l.i ≤ length l.numbers) × (any_of (λ (e : ℕ). eqb e l.number) (drop l.i l.numbers) ≡ any_of (λ (e : ℕ). eqb e l.number) l.numbers)
