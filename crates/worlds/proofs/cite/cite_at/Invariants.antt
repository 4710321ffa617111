-- `cite::cite_at`: with what the persons left still cite, the table is the one asked for; a turn takes a whole block.
use mathlib.Core.Path.{◌≡◌}
use Prim.Native.Nat.{◌<◌, ◌^◌}
use lib.ListN.{length}
use Rattle.worlds.proofs.CiteLaws.{Unmet}
use Rattle.worlds.proofs.cite.cite_at.Given as goal

abbrev pub invariant-loop-m : goal.invariant-loop-m
invariant-loop-m l = (l.m < 2 ^ 64) × (length l.cited ≡ 64) × Unmet l.blocks l.what l.persons l.initial.cited l.cited l.m

abbrev pub decreases-loop-m : goal.decreases-loop-m
decreases-loop-m l = l.m
