-- `lay::lay_bars`: after i bars the rows hold the members and the citations of the first i, and the other rows are as they were.
use mathlib.Core.Path.{◌≡◌}
use mathlib.Core.List.{[], ◌∷◌}
use Rattle.sets.specs.paper.Sets.{one}
use Rattle.records.specs.paper.Plan.{Plan}
use Rattle.records.specs.code.Decoded.{bars_of}
use Rattle.expressions.specs.paper.Rules.{bar}
use Rattle.worlds.specs.code.Laid.{Same}
use Rattle.worlds.proofs.LayLaws.{Filled}
use Rattle.worlds.proofs.lay.lay_bars.Given as goal

abbrev pub invariant-loop-i : goal.invariant-loop-i
invariant-loop-i l =
    ((P : Plan) → P.bars ≡ bars_of l.bars → Filled (λ j v. v ≡ (bar P j).members) l.t 13 l.i × Filled (λ j v. v ≡ one (bar P j).citation) l.t 19 l.i)
    × Same (13 ∷ 19 ∷ []) l.initial.t l.t
