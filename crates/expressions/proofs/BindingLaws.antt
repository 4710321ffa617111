-- What the intake desk relies on: an open answer stays open, whatever else is known of the fact.
use mathlib.Core.Path.{◌≡◌, ap}
use mathlib.Core.Bool.{Bool, cond}
use mathlib.Core.List.{[]}
use Prim.Native.Nat.{ℕ}
use lib.ListN.{length}
use borrow.Author.Tests.{ne_eqb}
use Rattle.records.specs.paper.Plan.{Plan}
use Rattle.records.specs.paper.Case.{Case}
use Rattle.expressions.specs.paper.Bindings.{unknown, weighed, bound_boolean, bound_relation, in_scope, observed, said_unknown, by_default, default_of, elections, in_family}

-- explicit unknown is Unknown: no observation and no default overrides it
pub explicit_unknown : (P : Plan) (C : Case) (f : ℕ) → (length (said_unknown C f) ≡ 0 → ⊥) → bound_boolean P C f ≡ unknown
unfolding bound_boolean
explicit_unknown P C f n =
    ap (λ (b : Bool). cond b (weighed (observed C f) (by_default (default_of (elections P f)))) unknown) (ne_eqb (length (said_unknown C f)) 0 n)

-- no family in scope: Unknown, whatever was observed
pub out_of_scope : (P : Plan) (C : Case) (f : ℕ) → in_scope P C f ≡ [] → bound_relation P C f ≡ unknown
unfolding bound_relation
out_of_scope P C f e = ap (λ ms. in_family ms (observed C f)) e
