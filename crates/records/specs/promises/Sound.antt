-- What the check gives of every accepted plan, and reading of every accepted case: all that refusals 1 to 7 of document 01 rule out. Every
-- number is in its range and names what it should, records and lists stay within their limits, and no later check found a fault.
-- Contracts above cite it as one property; proofs/Accepted.antt shows it of `checked_plan`, proofs/AcceptedCase.antt of `read_case`.
use Rattle.std.specs.Prelude.{◌≡◌, true, List, [], ◌∷◌, ℕ, suc, ◌^◌, ◌≤◌, ◌<◌, length}
use Rattle.sets.specs.paper.Sets.{All}
use Rattle.records.specs.paper.Fields.{person, citation, evidence, above}
use Rattle.records.specs.paper.Plan.{Plan, Heading, Fact, Node, literal, fact, conj, disj, neg, Edge, Election, Decision, Cut, Attachment, Bar, Status, is_boolean, facts_rise, decided_once, unresolved, boolean_fact, crossings_decided, election_faults, election_records}
use Rattle.records.specs.paper.Case.{Case, CaseHeading, Family, Boolean, Relation, Observation, relation_sound}

-- so many at most, each below a bound
abbrev pub Numbers : ℕ → ℕ → List ℕ → Type 0
Numbers most bound ns = (length ns ≤ most) × All (λ n. n < bound) ns

-- "Citations and evidence are 0–63"; persons are 0–63
abbrev pub Person : ℕ → Type 0
Person n = n < above person

abbrev pub Citation : ℕ → Type 0
Citation n = n < above citation

abbrev pub Evidence : ℕ → Type 0
Evidence n = n < above evidence

-- "actors 1–255"
abbrev pub Actor : ℕ → Type 0
Actor n = (1 ≤ n) × (n < 256)

-- ---- the records of a plan

pub record SoundHeading (h : Heading) : Type 0 where
  pub relation : h.relation < 256
  pub chain : Numbers 1 (above citation) h.chain

-- a boolean fact has neither family nor tuple
pub record SoundFact (f : Fact) : Type 0 where
  pub family : Numbers 1 256 f.family
  pub tuple : Numbers 4 (above person) f.tuple
  pub both : is_boolean f ≡ true → f.tuple ≡ []

module _ (P : Plan) where
  -- the node of number k: its fact is one, its children are lower
  abbrev pub SoundNode : ℕ → Node → Type 0
  SoundNode k (literal b) = b < 2
  SoundNode k (fact f) = f < length P.facts
  SoundNode k (conj is) = Numbers 16 k is
  SoundNode k (disj is) = Numbers 16 k is
  SoundNode k (neg i) = i < k

  abbrev pub SoundNodes : ℕ → List Node → Type 0
  SoundNodes k [] = Unit {0}
  SoundNodes k (n ∷ ns) = SoundNode k n × SoundNodes (suc k) ns

  pub record SoundElection (e : Election) : Type 0 where
    pub fact : boolean_fact P e.fact ≡ true
    pub actor : Actor e.actor
    pub policy : e.policy < 3
    pub citation : Citation e.citation

  pub record SoundEdge (e : Edge) : Type 0 where
    pub left : Person e.left
    pub right : Person e.right
    pub condition : e.condition < length P.nodes
    pub citation : Citation e.citation
    pub defeaters : Numbers 16 (length P.nodes) e.defeaters

  pub record SoundDecision (d : Decision) : Type 0 where
    pub edge : d.edge < length P.edges
    pub verdict : (1 ≤ d.verdict) × (d.verdict < 4)

  pub record SoundCut (c : Cut) : Type 0 where
    pub members : c.members < 2 ^ 64
    pub condition : c.condition < length P.nodes
    pub citation : Citation c.citation
    pub election : All SoundElection c.election
    pub one : length c.election ≤ 1
    pub few : length c.decisions ≤ 64
    pub decisions : All SoundDecision c.decisions
    pub once : decided_once c.decisions ≡ true
    pub precedes : Numbers 16 (length P.cuts) c.precedes
    -- refusal 6 was not found
    pub crossings : crossings_decided P c ≡ true

  pub record SoundAttachment (a : Attachment) : Type 0 where
    pub members : a.members < 2 ^ 64
    pub anchor : Person a.anchor
    pub condition : a.condition < length P.nodes
    pub citation : Citation a.citation
    pub actor : Actor a.actor
    pub election : All SoundElection a.election
    pub one : length a.election ≤ 1

  pub record SoundBar (b : Bar) : Type 0 where
    pub members : b.members < 2 ^ 64
    pub condition : b.condition < length P.nodes
    pub citation : Citation b.citation

  pub record SoundStatus (t : Status) : Type 0 where
    pub person : Person t.person
    pub condition : t.condition < length P.nodes
    pub citation : Citation t.citation

-- WHAT AN ACCEPTED PLAN IS
pub record Sound (P : Plan) : Type 0 where
  pub heading : length P.headings ≡ 1
  pub headings : All SoundHeading P.headings
  pub fact_limit : length P.facts ≤ 64
  pub facts : All SoundFact P.facts
  pub rise : facts_rise P.facts ≡ true
  pub node_limit : length P.nodes ≤ 256
  pub nodes : SoundNodes P 0 P.nodes
  pub edge_limit : length P.edges ≤ 64
  pub edges : All (SoundEdge P) P.edges
  pub cut_limit : length P.cuts ≤ 16
  pub cuts : All (SoundCut P) P.cuts
  pub decision_limit : unresolved P.cuts ≤ 16
  pub attachment_limit : length P.attachments ≤ 32
  pub attachments : All (SoundAttachment P) P.attachments
  pub bar_limit : length P.bars ≤ 32
  pub bars : All (SoundBar P) P.bars
  pub status_limit : length P.statuses ≤ 32
  pub statuses : All (SoundStatus P) P.statuses
  -- refusal 7 was not found
  pub elections : All (λ n. n ≡ 0) (election_faults [] (election_records P))

-- ---- the records of a case

pub record SoundCaseHeading (h : CaseHeading) : Type 0 where
  pub relation : h.relation < 256
  pub scope : h.scope < 256
  pub segment : h.segment < 256
  pub roster : h.roster < 2 ^ 64
  pub complete : Numbers 1 (above evidence) h.complete
  pub most_worlds : h.most_worlds ≤ 4096

pub record SoundFamily (m : Family) : Type 0 where
  pub number : m.number < 256
  pub scope : m.scope < 256
  pub complete : Numbers 1 (above evidence) m.complete

pub record SoundObservation (o : Observation) : Type 0 where
  pub value : o.value < 2
  pub evidence : Evidence o.evidence

pub record SoundBoolean (P : Plan) (b : Boolean) : Type 0 where
  pub fact : boolean_fact P b.fact ≡ true
  pub unknown : Numbers 1 (above evidence) b.unknown
  pub few : length b.observations ≤ 16
  pub observations : All SoundObservation b.observations

pub record SoundRelation (P : Plan) (C : Case) (r : Relation) : Type 0 where
  pub sort : relation_sound P C r ≡ true
  pub observation : SoundObservation r.observation

-- WHAT AN ACCEPTED CASE IS, over its plan
pub record SoundCase (P : Plan) (C : Case) : Type 0 where
  pub heading : length C.headings ≡ 1
  pub headings : All SoundCaseHeading C.headings
  pub family_limit : length C.families ≤ 16
  pub families : All SoundFamily C.families
  pub boolean_limit : length C.booleans ≤ 64
  pub booleans : All (SoundBoolean P) C.booleans
  pub relation_limit : length C.relations ≤ 256
  pub relations : All (SoundRelation P C) C.relations
  pub constraints : Numbers 16 (length P.nodes) C.constraints
