-- The plan and the case of document 01 that the code's structs stand for.
use Rattle.std.specs.Prelude.{Bool, false, cond, not, List, [], ◌∷◌, map, ℕ, zero, suc, get_or, take}
use Rattle.sets.specs.paper.Sets.{below}
use Rattle.records.specs.paper.Plan as paper
use Rattle.records.specs.paper.Case as case
use Rattle.records.specs.declared.plan.Numbers.{Numbers}
use Rattle.records.specs.declared.plan.Fact.{Fact}
use Rattle.records.specs.declared.plan.Node.{Node}
use Rattle.records.specs.declared.plan.Edge.{Edge}
use Rattle.records.specs.declared.plan.Election.{Election}
use Rattle.records.specs.declared.plan.Decisions.{Decisions}
use Rattle.records.specs.declared.plan.Cut.{Cut}
use Rattle.records.specs.declared.plan.Attachment.{Attachment}
use Rattle.records.specs.declared.plan.Bar.{Bar}
use Rattle.records.specs.declared.plan.Status.{Status}
use Rattle.records.specs.declared.plan.Facts.{Facts}
use Rattle.records.specs.declared.plan.Nodes.{Nodes}
use Rattle.records.specs.declared.plan.Edges.{Edges}
use Rattle.records.specs.declared.plan.Cuts.{Cuts}
use Rattle.records.specs.declared.plan.Attachments.{Attachments}
use Rattle.records.specs.declared.plan.Bars.{Bars}
use Rattle.records.specs.declared.plan.Statuses.{Statuses}
use Rattle.records.specs.declared.plan.Plan.{Plan}
use Rattle.records.specs.declared.case.CaseHeading.{CaseHeading}
use Rattle.records.specs.declared.case.Family.{Family}
use Rattle.records.specs.declared.case.Observations.{Observations}
use Rattle.records.specs.declared.case.Boolean.{Boolean}
use Rattle.records.specs.declared.case.Relation.{Relation}
use Rattle.records.specs.declared.case.Families.{Families}
use Rattle.records.specs.declared.case.Booleans.{Booleans}
use Rattle.records.specs.declared.case.Relations.{Relations}
use Rattle.records.specs.declared.case.Constraints.{Constraints}
use Rattle.records.specs.declared.case.Case.{Case}

-- none, or one
abbrev pub if_given : {A : Type 0} → Bool → A → List A
if_given b x = cond b (x ∷ []) []

unfoldable pub numbers_of : Numbers → List ℕ
numbers_of n = take n.count n.items

unfoldable pub fact_of : Fact → paper.Fact
fact_of f = record { family = if_given (not f.boolean) f.family; tuple = take f.count f.tuple }

unfoldable pub node_by : ℕ → ℕ → List ℕ → paper.Node
node_by zero n is = paper.literal n
node_by (suc zero) n is = paper.fact n
node_by (suc (suc zero)) n is = paper.conj is
node_by (suc (suc (suc zero))) n is = paper.disj is
node_by (suc (suc (suc (suc k)))) n is = paper.neg n

unfoldable pub node_of : Node → paper.Node
node_of n = node_by n.sort n.number (numbers_of n.children)

unfoldable pub edge_of : Edge → paper.Edge
edge_of e = record { left = e.left; right = e.right; condition = e.condition; citation = e.citation; defeaters = numbers_of e.defeaters; combination = e.combination }

-- the code's mark for no election
abbrev pub no_election : Election
no_election = record { given = false; fact = 0; actor = 0; policy = 0; citation = 0 }

unfoldable pub election_of : Election → List paper.Election
election_of e = if_given e.given (record { fact = e.fact; actor = e.actor; policy = e.policy; citation = e.citation })

unfoldable pub decisions_of : Decisions → List paper.Decision
decisions_of d = below d.count (λ i. record { edge = get_or d.edges i 0; verdict = get_or d.verdicts i 0 })

unfoldable pub cut_of : Cut → paper.Cut
cut_of c = record {
  members = c.members;
  condition = c.condition;
  citation = c.citation;
  election = election_of c.election;
  decisions = decisions_of c.decisions;
  precedes = numbers_of c.precedes;
}

unfoldable pub attachment_of : Attachment → paper.Attachment
attachment_of a = record
    { members = a.members; anchor = a.anchor; condition = a.condition; citation = a.citation; actor = a.actor; election = election_of a.election }

unfoldable pub bar_of : Bar → paper.Bar
bar_of b = record { members = b.members; condition = b.condition; citation = b.citation }

unfoldable pub status_of : Status → paper.Status
status_of t = record { person = t.person; condition = t.condition; citation = t.citation }

-- ---- the records of a kind

-- so many headings, at most one
abbrev pub headings_of : ℕ → ℕ → Bool → ℕ → List paper.Heading
headings_of n relation chained chain = take n (record { relation = relation; chain = if_given chained chain } ∷ [])

abbrev pub facts_of : Facts → List paper.Fact
facts_of x = map fact_of (take x.count x.items)

abbrev pub nodes_of : Nodes → List paper.Node
nodes_of x = map node_of (take x.count x.items)

abbrev pub edges_of : Edges → List paper.Edge
edges_of x = map edge_of (take x.count x.items)

abbrev pub cuts_of : Cuts → List paper.Cut
cuts_of x = map cut_of (take x.count x.items)

abbrev pub attachments_of : Attachments → List paper.Attachment
attachments_of x = map attachment_of (take x.count x.items)

abbrev pub bars_of : Bars → List paper.Bar
bars_of x = map bar_of (take x.count x.items)

abbrev pub statuses_of : Statuses → List paper.Status
statuses_of x = map status_of (take x.count x.items)

-- THE PLAN that a struct stands for
unfoldable pub plan_of : Plan → paper.Plan
plan_of p = record {
  headings = headings_of p.headings p.relation p.chained p.chain;
  facts = facts_of p.facts;
  nodes = nodes_of p.nodes;
  edges = edges_of p.edges;
  cuts = cuts_of p.cuts;
  attachments = attachments_of p.attachments;
  bars = bars_of p.bars;
  statuses = statuses_of p.statuses;
}

unfoldable pub case_heading_of : CaseHeading → case.CaseHeading
case_heading_of h = record {
  relation = h.relation;
  scope = h.scope;
  segment = h.segment;
  segment_complete = h.segment_complete;
  roster = h.roster;
  complete = if_given h.complete h.evidence;
  most_worlds = h.most_worlds;
}

unfoldable pub family_of : Family → case.Family
family_of m = record { number = m.number; scope = m.scope; complete = if_given m.complete m.evidence }

unfoldable pub observations_of : Observations → List case.Observation
observations_of o = below o.count (λ i. record { value = get_or o.values i 0; evidence = get_or o.evidence i 0 })

unfoldable pub boolean_of : Boolean → case.Boolean
boolean_of b = record { fact = b.fact; unknown = if_given b.unknown b.evidence; observations = observations_of b.observations }

unfoldable pub relation_of : Relation → case.Relation
relation_of r = record { fact = r.fact; observation = record { value = r.value; evidence = r.evidence } }

abbrev pub case_headings_of : ℕ → CaseHeading → List case.CaseHeading
case_headings_of n h = take n (case_heading_of h ∷ [])

abbrev pub families_of : Families → List case.Family
families_of x = map family_of (take x.count x.items)

abbrev pub booleans_of : Booleans → List case.Boolean
booleans_of x = map boolean_of (take x.count x.items)

abbrev pub relations_of : Relations → List case.Relation
relations_of x = map relation_of (take x.count x.items)

abbrev pub constraints_of : Constraints → List ℕ
constraints_of x = take x.count x.items

-- THE CASE that a struct stands for
unfoldable pub case_of : Case → case.Case
case_of c = record {
  headings = case_headings_of c.headings c.heading;
  families = families_of c.families;
  booleans = booleans_of c.booleans;
  relations = relations_of c.relations;
  constraints = constraints_of c.constraints;
}
