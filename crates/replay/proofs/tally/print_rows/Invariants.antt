-- `print_rows`: the table is read within its length, and the loop ends.
use Prim.Native.Nat.{◌≤◌, ◌-◌}
use Rattle.replay.proofs.tally.print_rows.Given as goal

abbrev pub invariant-loop-i : goal.invariant-loop-i
invariant-loop-i l = l.i ≤ 16
