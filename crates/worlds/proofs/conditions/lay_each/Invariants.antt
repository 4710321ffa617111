-- `conditions::lay_each`: the entries below the i-th are laid.
use Prim.Native.Nat.{ℕ, ◌<◌}
use mathlib.Core.Path.{◌≡◌}
use lib.ListN.{length, get_or}
use Rattle.std.specs.Fn.{FnReturnsAt}
use Rattle.worlds.proofs.conditions.lay_each.Given as goal

abbrev pub invariant-loop-i : goal.invariant-loop-i
invariant-loop-i g l = record {
  long : length l.table ≡ 64;
  laid : (none : _) (past : _) (k : ℕ) → k < l.i → FnReturnsAt g.F.Fn l.entry (get_or l.rules k none) (get_or l.table k past);
}
