-- The events of all worlds. Document 01: "events of all admissible worlds rise in byte order, no repeats".
use Rattle.std.specs.Prelude.{Bool, true, false, cond, List, [], ◌∷◌, ℕ}
use Rattle.sets.specs.paper.Sets.{lex_less}
use Rattle.records.specs.paper.Plan.{Plan, Election}
use Rattle.records.specs.paper.Case.{Case}
use Rattle.expressions.specs.paper.Rules.{fact_count}
use Rattle.expressions.specs.paper.Bindings.{elections, default_of, took_default}
use Rattle.worlds.specs.paper.Events.{event, listed, election_actor}

-- "An event is 12 bytes"
abbrev pub event_length : ℕ
event_length = 12

-- an event in its place among rising ones
unfoldable pub insert : List ℕ → List (List ℕ) → List (List ℕ)
insert e [] = e ∷ []
insert e (x ∷ xs) = cond (lex_less e x) (e ∷ x ∷ xs) (cond (lex_less x e) (x ∷ insert e xs) (x ∷ xs))

unfoldable pub rising : List (List ℕ) → List (List ℕ)
rising [] = []
rising (e ∷ es) = insert e (rising es)

abbrev pub number_of : List Bool → ℕ
number_of [] = 0
number_of (false ∷ bs) = 0
number_of (true ∷ bs) = 1

abbrev pub election_citation : List Election → ℕ
election_citation [] = 0
election_citation (e ∷ es) = e.citation

-- "8 default: fact, actor, value, citation number"
unfoldable pub default_events : Plan → Case → List (List ℕ)
default_events P C =
    listed (fact_count P) (took_default P C)
    (λ f. event 8 f (election_actor (elections P f)) (number_of (default_of (elections P f))) (election_citation (elections P f)))
