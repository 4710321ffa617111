-- The open facts and decisions beside a person, as a statement about bytes. Document 01: "Open fields: variables whose influence holds the person,
-- zero for kind 0".
use Rattle.std.specs.Prelude.{◌≡◌, true, List, ◌↔◌, ℕ, ◌≤◌, ◌<◌}
use Rattle.sets.specs.paper.Sets.{has}
use Rattle.records.specs.paper.Plan.{Plan}
use Rattle.records.specs.paper.Case.{Case}
use Rattle.expressions.specs.paper.Rules.{fact_count}
use Rattle.expressions.specs.paper.Influence.{decision_count}
use Rattle.expressions.specs.paper.Bindings.{binding_of, bindings, frame_of}
use Rattle.expressions.specs.paper.Variables.{is_variable, fact_influence, decision_influence}
use Rattle.report.specs.paper.LineAt.{line_at, decoded}
use Rattle.promises.specs.Partitioned.{person_at, kind_at}

-- ---- what line k leaves open

-- bit f for fact f
unfoldable pub facts_at : List ℕ → ℕ → ℕ
facts_at s k = (decoded (line_at s k)).open_facts

-- bit d for the plan's unresolved decision d
unfoldable pub decisions_at : List ℕ → ℕ → ℕ
decisions_at s k = (decoded (line_at s k)).open_decisions

-- 1 membership, 2 role, 3 overlap, 4 discretion
abbrev pub Undecided : ℕ → Type 0
Undecided kind = (1 ≤ kind) × (kind ≤ 4)

-- ---- what is open for person p

-- fact f is Unknown or a Conflict in the case, and its influence holds the person
pub record OpenFact (P : Plan) (C : Case) (p f : ℕ) : Type 0 where
  pub fact : f < fact_count P
  pub variable : is_variable (binding_of P C f) ≡ true
  pub influence : has (fact_influence (frame_of P C) (bindings P C) f) p ≡ true

pub record OpenDecision (P : Plan) (C : Case) (p d : ℕ) : Type 0 where
  pub decision : d < decision_count P
  pub influence : has (decision_influence (frame_of P C) d) p ≡ true

-- ---- of n lines: those of kinds 1 to 4 name what is open for their person, all of it and nothing else; the others (kind 0, and 5 and 6) name nothing
pub record OpenNamed (P : Plan) (C : Case) (s : List ℕ) (n : ℕ) : Type 0 where
  pub facts : (k : ℕ) → k < n → Undecided (kind_at s k) → (f : ℕ) → (has (facts_at s k) f ≡ true) ↔ OpenFact P C (person_at s k) f
  pub decisions : (k : ℕ) → k < n → Undecided (kind_at s k) → (d : ℕ) → (has (decisions_at s k) d ≡ true) ↔ OpenDecision P C (person_at s k) d
  pub none : (k : ℕ) → k < n → (Undecided (kind_at s k) → ⊥) → (facts_at s k ≡ 0) × (decisions_at s k ≡ 0)
