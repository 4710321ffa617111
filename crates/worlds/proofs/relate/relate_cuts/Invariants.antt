-- `relate::relate_cuts`: of the cuts that are not left each stands beside all.
use mathlib.Core.Path.{◌≡◌}
use mathlib.Core.Bool.{true, false}
use mathlib.Core.List.{[], ◌∷◌}
use Prim.Native.Nat.{ℕ, ◌<◌, ◌^◌}
use Rattle.sets.specs.paper.Sets.{has}
use Rattle.worlds.specs.code.Laid.{Same}
use Rattle.worlds.specs.code.Related.{RelatedAt}
use Rattle.worlds.proofs.relate.relate_cuts.Given as goal

abbrev pub invariant-loop-c : goal.invariant-loop-c
invariant-loop-c l =
    (l.c-iterator.0 < 2 ^ 64) × Same (2 ∷ 3 ∷ 4 ∷ 5 ∷ 6 ∷ 7 ∷ []) l.initial.t l.t
    × ((c : ℕ) → has l.cuts c ≡ true → has l.c-iterator.0 c ≡ false → RelatedAt l.preceded c l.cuts l.combination l.initial.t l.t)
