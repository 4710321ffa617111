-- What the code gathers of a fact, and the binding and the default that follow.
use Rattle.std.specs.Prelude.{◌≡◌, Bool, not, ◌&&◌, cond, List, [], ◌∷◌, ℕ, ◌<◌, length, get_or, take, eqb, ltb}
use Rattle.sets.specs.paper.Sets.{has}
use Rattle.records.specs.paper.Plan as paper
use Rattle.records.specs.paper.Case.{Case, Family}
use Rattle.records.specs.code.Decoded.{election_of, no_election}
use Rattle.records.specs.declared.plan.Fact.{Fact}
use Rattle.expressions.specs.paper.Rules.{fact_count}
use Rattle.expressions.specs.paper.Bindings as bound
use Rattle.expressions.specs.paper.Bindings.{observed, said_unknown, elections, by_default, default_of, scoped, bindings_by, binding_at, took_default_by}
use Rattle.expressions.specs.code.Sight.{nothing, look_all, bound_by}
use Rattle.expressions.specs.code.Codes.{bound_of, silent_code}
use Rattle.expressions.specs.declared.observations.Sight.{Sight}
use Rattle.expressions.specs.declared.elections.Elected.{Elected}
use Rattle.expressions.specs.declared.bindings.Told.{Told}
use Rattle.expressions.specs.declared.bindings.Bound.{Bound}

-- the first election on each fact
pub record ElectedBy (P : paper.Plan) (r : Elected) : Type 0 where
  pub at : (f : ℕ) → f < 64 → election_of (get_or r.items f no_election) ≡ take 1 (elections P f)

-- all that case and plan say of the fact of number f
pub record TellsFact (P : paper.Plan) (C : Case) (f : ℕ) (t : Told) : Type 0 where
  pub seen : t.seen ≡ look_all nothing (observed C f)
  pub unknown : t.unknown ≡ not (eqb (length (said_unknown C f)) 0)
  pub election : election_of t.election ≡ take 1 (elections P f)

unfoldable pub boolean_by : Told → bound.Bound
boolean_by t = cond t.unknown bound.unknown (bound_by t.seen (by_default (default_of (election_of t.election))))

-- where no observation means what this code says
unfoldable pub relation_by : ℕ → Sight → bound.Bound
relation_by silent s = cond (eqb silent 0) bound.unknown (bound_by s (bound_of silent))

unfoldable pub binding_from : Bool → Fact → Told → List Family → ℕ → bound.Bound
binding_from b x t ms scope =
    cond b (cond x.boolean (boolean_by t) (relation_by (silent_code (scoped (x.family ∷ []) scope ms)) t.seen)) bound.unbound

unfoldable pub default_from : Bool → Fact → Told → Bool
default_from b x t = (b && x.boolean) && ((not t.unknown && not t.seen.any) && not (eqb (length (default_of (election_of t.election))) 0))

-- the facts that took their default, where `set` has those that are bound
pub record Defaulted (P : paper.Plan) (C : Case) (set r : ℕ) : Type 0 where
  pub at : (f : ℕ) → has r f ≡ (ltb f (fact_count P) && took_default_by P C set f)

-- the binding of each fact, and the facts that took their default
pub record BindsFacts (P : paper.Plan) (C : Case) (set : ℕ) (r : Bound) : Type 0 where
  pub codes : (f : ℕ) → bound_of (get_or r.codes f 0) ≡ binding_at (bindings_by P C set) f
  pub defaults : Defaulted P C set r.defaults
