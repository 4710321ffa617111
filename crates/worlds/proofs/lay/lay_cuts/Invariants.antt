-- `lay::lay_cuts`: after i cuts the rows hold the members, the citations and the edges said to be blocked of the first i, and the other rows are as they were.
use mathlib.Core.Path.{◌≡◌}
use mathlib.Core.List.{[], ◌∷◌}
use Prim.Native.Nat.{ℕ}
use Rattle.sets.specs.paper.Sets.{has, one}
use Rattle.records.specs.paper.Plan.{Plan}
use Rattle.records.specs.code.Decoded.{cuts_of}
use Rattle.expressions.specs.paper.Rules.{cut}
use Rattle.expressions.specs.paper.Influence.{says}
use Rattle.worlds.specs.code.Laid.{Same}
use Rattle.worlds.proofs.LayLaws.{Filled}
use Rattle.worlds.proofs.lay.lay_cuts.Given as goal

abbrev pub invariant-loop-i : goal.invariant-loop-i
invariant-loop-i l =
    ((P : Plan) → P.cuts ≡ cuts_of l.cuts
    → Filled (λ j v. v ≡ (cut P j).members) l.t 1 l.i × Filled (λ j v. v ≡ one (cut P j).citation) l.t 17 l.i × Filled (λ j v. (e : ℕ) → has v e ≡ says P j e 1) l.t 8 l.i)
    × Same (1 ∷ 17 ∷ 8 ∷ []) l.initial.t l.t
