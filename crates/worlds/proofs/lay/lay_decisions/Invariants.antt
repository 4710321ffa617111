-- `lay::lay_decisions`: after i decisions one row holds the edges of the first i, the other has them at their cuts.
use mathlib.Core.Path.{◌≡◌}
use mathlib.Core.Bool.{◌&&◌, ◌||◌}
use mathlib.Core.List.{[], ◌∷◌}
use Prim.Native.Nat.{ℕ}
use lib.Dec.{eqb, ltb}
use Rattle.sets.specs.paper.Sets.{has, one}
use Rattle.records.specs.paper.Plan.{Plan}
use Rattle.expressions.specs.paper.Influence.{open_decisions, open_decision}
use Rattle.expressions.specs.code.Undecided.{opens_of}
use Rattle.worlds.specs.code.Tables.{row}
use Rattle.worlds.specs.code.Laid.{Same}
use Rattle.worlds.proofs.LayLaws.{Filled}
use Rattle.worlds.proofs.lay.lay_decisions.Given as goal

abbrev pub invariant-loop-i : goal.invariant-loop-i
invariant-loop-i l =
    ((P : Plan) → open_decisions P ≡ opens_of l.undecided
    → Filled (λ j v. v ≡ one (open_decision P j).edge) l.t 10 l.i
    × ((c d : ℕ) → has (row l.t 9 c) d ≡ (has (row l.initial.t 9 c) d || (ltb d l.i && eqb (open_decision P d).cut c))))
    × Same (10 ∷ 9 ∷ []) l.initial.t l.t
