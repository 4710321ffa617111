-- `cite::hand_out`: with the persons left still to get their citations, the table is the one asked for.
use mathlib.Core.Path.{◌≡◌}
use Prim.Native.Nat.{ℕ, ◌<◌, ◌^◌}
use lib.ListN.{length}
use Rattle.worlds.proofs.CiteTurns.{handed}
use Rattle.worlds.proofs.cite.hand_out.Given as goal

abbrev pub invariant-loop-p : goal.invariant-loop-p
invariant-loop-p l = (l.p-iterator.0 < 2 ^ 64) × (length l.citations ≡ 64) × ((p : ℕ) → handed l.blocks l.cited l.own l.p-iterator.0 l.citations p ≡ handed l.blocks l.cited l.own l.persons l.initial.citations p)
