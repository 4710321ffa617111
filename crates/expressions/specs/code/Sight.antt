-- What the code keeps of a fact's observations as it passes over them, and the binding that follows.
use Rattle.std.specs.Prelude.{true, false, not, cond, List, [], ◌∷◌, eqb}
use Rattle.records.specs.paper.Case.{Observation}
use Rattle.expressions.specs.declared.observations.Sight.{Sight}
use Rattle.expressions.specs.paper.Bindings.{just, both, Bound, known, conflict}

abbrev pub nothing : Sight
nothing = record { any = false; value = 0; evidence = 0; differs = false; both = false }

-- one observation more
unfoldable pub look_at : Sight → Observation → Sight
look_at s o =
    cond (not s.any) (record { any = true; value = o.value; evidence = o.evidence; differs = false; both = false })
    (cond (not (eqb o.value s.value)) (record { any = true; value = s.value; evidence = s.evidence; differs = true; both = true })
    (cond (not (eqb o.evidence s.evidence)) (record { any = true; value = s.value; evidence = s.evidence; differs = true; both = s.both }) s))

unfoldable pub look_all : Sight → List Observation → Sight
look_all s [] = s
look_all s (o ∷ os) = look_all (look_at s o) os

-- what is bound by what was seen; with nothing seen, what is said beside it
unfoldable pub bound_by : Sight → Bound → Bound
bound_by s silent =
    cond s.any (cond s.differs (conflict (cond s.both both (just (eqb s.value 1)))) (known (eqb s.value 1))) silent
