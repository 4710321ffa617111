-- A number within a buffer counts bytes at its start.
use mathlib.Core.Path.{sym}
use mathlib.Core.List.{List}
use Prim.Native.Nat.{ℕ, ◌≤◌}
use lib.ListN.{length}
use lib.Seq.{length-take-le}
use Rattle.io.specs.Counts.{IsPrefixLen}

pub counted : (n : ℕ) (s : List ℕ) → n ≤ length s → IsPrefixLen n s
counted n s h = (h, sym (length-take-le n s h))
