-- `lay::lay_edges`: after i edges the rows hold the ends and the citations of the first i, and the other rows are as they were.
use mathlib.Core.Path.{◌≡◌}
use mathlib.Core.List.{[], ◌∷◌}
use Rattle.sets.specs.paper.Sets.{one}
use Rattle.records.specs.paper.Plan.{Plan}
use Rattle.records.specs.code.Decoded.{edges_of}
use Rattle.expressions.specs.paper.Rules.{edge, pair}
use Rattle.worlds.specs.code.Laid.{Same}
use Rattle.worlds.proofs.LayLaws.{Filled}
use Rattle.worlds.proofs.lay.lay_edges.Given as goal

abbrev pub invariant-loop-i : goal.invariant-loop-i
invariant-loop-i l =
    ((P : Plan) → P.edges ≡ edges_of l.edges → Filled (λ j v. v ≡ pair P j) l.t 0 l.i × Filled (λ j v. v ≡ one (edge P j).citation) l.t 16 l.i)
    × Same (0 ∷ 16 ∷ []) l.initial.t l.t
