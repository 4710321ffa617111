-- `make::lay_spread`: of the persons that are not left each has how far a mark there spreads.
use mathlib.Core.Path.{◌≡◌}
use mathlib.Core.Bool.{true, false}
use mathlib.Core.List.{[], ◌∷◌}
use Prim.Native.Nat.{ℕ, ◌<◌, ◌^◌}
use Rattle.sets.specs.paper.Sets.{has, one, close_of}
use Rattle.worlds.specs.code.Tables.{row}
use Rattle.worlds.specs.code.Laid.{Same}
use Rattle.worlds.proofs.make.lay_spread.Given as goal

abbrev pub invariant-loop-p : goal.invariant-loop-p
invariant-loop-p l =
    (l.p-iterator.0 < 2 ^ 64) × Same (15 ∷ []) l.initial.t l.t
    × ((p : ℕ) → has l.roster p ≡ true → has l.p-iterator.0 p ≡ false → row l.t 15 p ≡ close_of l.rules (close_of l.influence (one p)))
