-- WHEN A FACT IS KNOWN. Document 01, "Bound facts", read from its answer: what must be said before a fact counts as true, or as false. Whatever is
-- not said in one of these ways stays open.
use Rattle.std.specs.Prelude.{◌≡◌, Bool, true, false, List, [], ◌↔◌, ◌≢◌, ℕ}
use Rattle.sets.specs.paper.Sets.{has, All}
use Rattle.records.specs.paper.Plan.{Plan, get_fact, is_boolean}
use Rattle.records.specs.paper.Case.{Case, Observation}
use Rattle.expressions.specs.paper.Influence.{bound_facts}
use Rattle.expressions.specs.paper.Bindings.{known, binding_of, frame_of, observed, said_unknown, elections, in_scope}

-- there are some, and each is so
abbrev pub Each : {A : Type 0} → (A → Type 0) → List A → Type 0
Each Q xs = (xs ≢ []) × All Q xs

-- a value as a byte
abbrev pub byte_of : Bool → ℕ
byte_of false = 0
byte_of true = 1

-- the policy with that default: "1 default false, 2 default true"
abbrev pub policy_of : Bool → ℕ
policy_of false = 1
policy_of true = 2

-- "One distinct (value, evidence) pair": something is observed, and every observation has this value and one evidence
abbrev pub Seen : List Observation → Bool → Type 0
Seen os v = (evidence : ℕ) × Each (λ o. (o.value ≡ byte_of v) × (o.evidence ≡ evidence)) os

-- the ways in which fact f comes to have value v
pub data KnownBy (P : Plan) (C : Case) (f : ℕ) : Bool → Type 0 where
  -- it is boolean, not explicitly unknown, and observed so
  observation : {v : Bool} → is_boolean (get_fact P f) ≡ true → said_unknown C f ≡ [] → Seen (observed C f) v → KnownBy P C f v
  -- it is boolean, not explicitly unknown, nothing is observed of it, and it has an election, with this default (in an accepted plan all elections on
  -- one fact are equal)
  default : {v : Bool} → is_boolean (get_fact P f) ≡ true → said_unknown C f ≡ [] → observed C f ≡ []
      → Each (λ e. e.policy ≡ policy_of v) (elections P f) → KnownBy P C f v
  -- it is a relation, its family is in the roster's scope, and it is observed so
  relation_observed : {v : Bool} → is_boolean (get_fact P f) ≡ false → in_scope P C f ≢ [] → Seen (observed C f) v → KnownBy P C f v
  -- it is a relation, its family is in the roster's scope and complete, and nothing is observed of it: then it is false
  family_complete : is_boolean (get_fact P f) ≡ false → Each (λ m. m.complete ≢ []) (in_scope P C f) → observed C f ≡ [] → KnownBy P C f false

-- A FACT IS KNOWN WITH A VALUE EXACTLY IF it is bound ("facts that a condition, defeater or constraint uses are bound") and has the value in one of
-- those ways
abbrev pub KnownOnlyBy : Plan → Case → Type 0
KnownOnlyBy P C = (f : ℕ) (v : Bool) → (binding_of P C f ≡ known v) ↔ ((has (bound_facts (frame_of P C)) f ≡ true) × KnownBy P C f v)
