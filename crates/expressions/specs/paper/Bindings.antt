-- Bound facts and the refusals that come with them. Document 01, "Bound facts".
use Rattle.std.specs.Prelude.{Bool, true, false, ◌&&◌, ◌||◌, not, cond, ℕ, length, get_or, eqb}
use mathlib.Core.List.{List, [], ◌∷◌, ◌++◌, flat_map}
use Rattle.sets.specs.paper.Sets.{has, one, union, below, all_of, any_of, union_of, set_of}
use Rattle.records.specs.paper.Fields.{Verdict, fine, first_fault, fault}
use Rattle.records.specs.paper.Plan.{Plan, Election, get_fact, is_boolean, election_records}
use Rattle.records.specs.paper.Case.{Case, Family, Boolean, Relation, Observation, case_heading, families_at, booleans_at}
use Rattle.expressions.specs.paper.Influence.{Frame, bound_facts}
use Rattle.expressions.specs.paper.Rules.{fact_count}

-- the values that a variable takes, false first
pub data Choice : Type 0 where
  just : Bool → Choice
  both : Choice

pub data Bound : Type 0 where
  unbound : Bound
  known : Bool → Bound
  unknown : Bound
  conflict : Choice → Bound

abbrev pub frame_of : Plan → Case → Frame
frame_of P C = record { plan = P; roster = (case_heading C).roster; constraints = C.constraints }

-- ---- what the case says of a fact

-- its observations, from booleans and relations alike
unfoldable pub observed_in_booleans : List Boolean → ℕ → List Observation
observed_in_booleans bs f = flat_map (λ b. cond (eqb b.fact f) b.observations []) bs

unfoldable pub observed_in_relations : List Relation → ℕ → List Observation
observed_in_relations rs f = flat_map (λ r. cond (eqb r.fact f) (r.observation ∷ []) []) rs

abbrev pub observed : Case → ℕ → List Observation
observed C f = observed_in_booleans C.booleans f ++ observed_in_relations C.relations f

unfoldable pub unknown_in : List Boolean → ℕ → List ℕ
unknown_in bs f = flat_map (λ b. cond (eqb b.fact f) b.unknown []) bs

abbrev pub said_unknown : Case → ℕ → List ℕ
said_unknown C f = unknown_in C.booleans f

-- "Evidence is all the case gives for the election's fact, bound or not"
unfoldable pub evidence_of : Case → ℕ → ℕ
evidence_of C f = union (union_of (λ o. one o.evidence) (observed C f)) (set_of (said_unknown C f))

-- ---- bindings

abbrev pub same_observation : Observation → Observation → Bool
same_observation a b = eqb a.value b.value && eqb a.evidence b.evidence

-- "the values seen"
unfoldable pub values_seen : ℕ → List Observation → Choice
values_seen v os = cond (all_of (λ o. eqb o.value v) os) (just (eqb v 1)) both

-- "One distinct (value, evidence) pair is Known; several are a Conflict, also when all values agree: its candidates are the values seen";
-- with no observation, what is said beside it
unfoldable pub weighed : List Observation → Bound → Bound
weighed [] silent = silent
weighed (o ∷ os) silent = cond (all_of (same_observation o) os) (known (eqb o.value 1)) (conflict (values_seen o.value os))

unfoldable pub elections_in : List (List Election) → ℕ → List Election
elections_in ess f = flat_map (λ es. flat_map (λ e. cond (eqb e.fact f) (e ∷ []) []) es) ess

unfoldable pub elections : Plan → ℕ → List Election
elections P f = elections_in (election_records P) f

-- the default of an election's policy: none, or one
unfoldable pub default_of : List Election → List Bool
default_of [] = []
default_of (e ∷ es) = cond (eqb e.policy 1) (false ∷ []) (cond (eqb e.policy 2) (true ∷ []) [])

abbrev pub by_default : List Bool → Bound
by_default [] = unknown
by_default (b ∷ bs) = known b

-- "explicit unknown is Unknown; else observations; else an election's default; else Unknown"
unfoldable pub bound_boolean : Plan → Case → ℕ → Bound
bound_boolean P C f = cond (eqb (length (said_unknown C f)) 0) (weighed (observed C f) (by_default (default_of (elections P f)))) unknown

-- the family records of a number (of any, where none is given) that have the scope
unfoldable pub scoped : List ℕ → ℕ → List Family → List Family
scoped number scope ms = flat_map (λ m. cond (all_of (eqb m.number) number && eqb m.scope scope) (m ∷ []) []) ms

-- the family records of a fact that have the roster's scope
unfoldable pub in_scope : Plan → Case → ℕ → List Family
in_scope P C f = scoped (get_fact P f).family (case_heading C).scope C.families

abbrev pub in_family : List Family → List Observation → Bound
in_family [] os = unknown
in_family (m ∷ ms) os = weighed os (cond (eqb (length m.complete) 0) unknown (known false))

-- "no family, or a scope other than the roster's, is Unknown; no observation is Known false if the family is complete, else Unknown"
unfoldable pub bound_relation : Plan → Case → ℕ → Bound
bound_relation P C f = in_family (in_scope P C f) (observed C f)

-- where `set` is the set of the facts to bind
unfoldable pub binding_by : Plan → Case → ℕ → ℕ → Bound
binding_by P C set f = cond (has set f) (cond (is_boolean (get_fact P f)) (bound_boolean P C f) (bound_relation P C f)) unbound

unfoldable pub bindings_by : Plan → Case → ℕ → List Bound
bindings_by P C set = below (fact_count P) (binding_by P C set)

unfoldable pub binding_of : Plan → Case → ℕ → Bound
binding_of P C f = binding_by P C (bound_facts (frame_of P C)) f

-- the binding of each fact
unfoldable pub bindings : Plan → Case → List Bound
bindings P C = below (fact_count P) (binding_of P C)

abbrev pub binding_at : List Bound → ℕ → Bound
binding_at bs f = get_or bs f unbound

-- the bound facts that took their default, which event 8 shows
unfoldable pub took_default_by : Plan → Case → ℕ → ℕ → Bool
took_default_by P C set f =
    (has set f && is_boolean (get_fact P f))
    && ((eqb (length (said_unknown C f)) 0 && eqb (length (observed C f)) 0) && not (eqb (length (default_of (elections P f))) 0))

unfoldable pub took_default : Plan → Case → ℕ → Bool
took_default P C f = took_default_by P C (bound_facts (frame_of P C)) f

-- ---- "Then 5 a family twice; per boolean 10 explicit unknown beside observations, 5 fact twice", the later record

unfoldable pub family_faults : List Family → List Family → List ℕ
family_faults earlier [] = []
family_faults earlier (m ∷ ms) = fault 5 (not (any_of (λ e. eqb e.number m.number) earlier)) ∷ family_faults (m ∷ earlier) ms

unfoldable pub boolean_fault : List Boolean → Boolean → ℕ
boolean_fault earlier b =
    cond (eqb (length b.unknown) 0 || eqb (length b.observations) 0) (fault 5 (not (any_of (λ e. eqb e.fact b.fact) earlier))) 10

unfoldable pub boolean_faults : List Boolean → List Boolean → List ℕ
boolean_faults earlier [] = []
boolean_faults earlier (b ∷ bs) = boolean_fault earlier b ∷ boolean_faults (b ∷ earlier) bs

unfoldable pub bindable : Case → Verdict Case
bindable C = first_fault (families_at C) (family_faults [] C.families) (first_fault (booleans_at C) (boolean_faults [] C.booleans) (fine C))
