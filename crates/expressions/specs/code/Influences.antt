-- The influence of facts and decisions as the code lists it: a closing of what touches.
use Rattle.std.specs.Prelude.{List, ◌++◌, ℕ, get_or, take}
use Rattle.sets.specs.paper.Sets.{has, only, close_of, below}
use Rattle.expressions.specs.declared.reach.Reach.{Reach}
use Rattle.expressions.specs.declared.influence.Influence.{Influence}

unfoldable pub closed : List ℕ → List ℕ → ℕ → ℕ
closed groups touches d = close_of groups (get_or touches d 0)

-- nobody for a fact that is no variable
unfoldable pub closed_if : List ℕ → ℕ → List ℕ → ℕ → ℕ
closed_if groups variables touches f = only (has variables f) (closed groups touches f)

unfoldable pub sets_of : Influence → List ℕ
sets_of i = take i.count i.sets

-- of each fact among the variables, then of each unresolved decision
unfoldable pub influence_by : Reach → ℕ → List ℕ
influence_by r variables =
    let groups = take r.groups.count r.groups.sets in
    below r.count (closed_if groups variables r.facts) ++ below r.undecided.count (closed groups r.decisions)
