-- `lay::lay_statuses`: after i statuses the rows hold the persons and the citations of the first i, and the other rows are as they were.
use mathlib.Core.Path.{◌≡◌}
use mathlib.Core.List.{[], ◌∷◌}
use Rattle.sets.specs.paper.Sets.{one}
use Rattle.records.specs.paper.Plan.{Plan}
use Rattle.records.specs.code.Decoded.{statuses_of}
use Rattle.expressions.specs.paper.Rules.{status}
use Rattle.worlds.specs.code.Laid.{Same}
use Rattle.worlds.proofs.LayLaws.{Filled}
use Rattle.worlds.proofs.lay.lay_statuses.Given as goal

abbrev pub invariant-loop-i : goal.invariant-loop-i
invariant-loop-i l =
    ((P : Plan) → P.statuses ≡ statuses_of l.statuses → Filled (λ j v. v ≡ one (status P j).person) l.t 14 l.i × Filled (λ j v. v ≡ one (status P j).citation) l.t 20 l.i)
    × Same (14 ∷ 20 ∷ []) l.initial.t l.t
