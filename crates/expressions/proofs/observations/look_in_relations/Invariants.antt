-- `observations::look_in_relations`: what is left of the records from record i on, seen after what was seen, gives the whole, for each fact.
use mathlib.Core.List.{[], ◌∷◌}
use Rattle.records.specs.code.Decoded.{relation_of}
use Rattle.expressions.proofs.SeenLaws.{Looking}
use Rattle.expressions.proofs.observations.look_in_relations.Given as goal

abbrev pub invariant-loop-i : goal.invariant-loop-i
invariant-loop-i l = Looking relation_of (λ x. x.fact) (λ x. x.observation ∷ []) l.relations.items l.relations.count 256 l.initial.s.items l.n l.s.items l.i
