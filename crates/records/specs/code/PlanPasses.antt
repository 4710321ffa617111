-- The passes over a plan: what each kind's reader stands for. Contracts of src/plan/reading/ cite it.
use Rattle.std.specs.Prelude.{◌≡◌, Bool, true, false, not, cond, List, map, ℕ, ◌+◌, ◌-◌, ◌*◌, ◌/◌, ◌%◌, ◌≤◌, length, get_or, eqb, ltb}
use Rattle.sets.specs.paper.Sets.{has, all_of, numbers}
use Rattle.records.specs.paper.Fields.{Read, got, bad}
use Rattle.records.specs.paper.Plan.{Plan, Heading, Fact, Node, literal, conj, disj, neg, Edge, Decision, Cut, Attachment, Bar, Status, plan_formats, add_to_plan, judge_plan, facts_rise, decided_once, unresolved, decisions_from}
use Rattle.records.specs.paper.Plan as paper
use Rattle.records.specs.code.Decoded as decoded
use Rattle.records.specs.code.Decoded.{if_given}
use Rattle.records.specs.code.Readers.{bytes_from}
use Rattle.records.specs.code.Passes.{WithBits, Reading}
use Rattle.records.specs.declared.plan.reading.edges.EdgeFields.{EdgeFields}
use Rattle.records.specs.declared.plan.reading.edges.EdgeSeen.{EdgeSeen}
use Rattle.records.specs.declared.plan.reading.edges.EdgeSeen.TheVariants as edge
use Rattle.records.specs.declared.plan.reading.bars.BarSeen.{BarSeen}
use Rattle.records.specs.declared.plan.reading.bars.BarSeen.TheVariants as bar
use Rattle.records.specs.declared.plan.reading.statuses.StatusSeen.{StatusSeen}
use Rattle.records.specs.declared.plan.reading.statuses.StatusSeen.TheVariants as status
use Rattle.records.specs.declared.plan.reading.attachments.AttachmentSeen.{AttachmentSeen}
use Rattle.records.specs.declared.plan.reading.attachments.AttachmentSeen.TheVariants as attachment
use Rattle.records.specs.declared.plan.reading.heading.HeadingSeen.{HeadingSeen}
use Rattle.records.specs.declared.plan.reading.heading.HeadingSeen.TheVariants as heading
use Rattle.records.specs.declared.plan.reading.facts.FactSeen.{FactSeen}
use Rattle.records.specs.declared.plan.reading.facts.FactSeen.TheVariants as fact
use Rattle.records.specs.declared.plan.reading.nodes.NodeFields.{NodeFields}
use Rattle.records.specs.declared.plan.reading.nodes.NodeSeen.{NodeSeen}
use Rattle.records.specs.declared.plan.reading.nodes.NodeSeen.TheVariants as node
use Rattle.records.specs.declared.plan.reading.cuts.CutFields.{CutFields}
use Rattle.records.specs.declared.plan.reading.cuts.CutSeen.{CutSeen}
use Rattle.records.specs.declared.plan.reading.cuts.CutSeen.TheVariants as cut
use Rattle.records.specs.declared.plan.Decisions.{Decisions}

-- nothing is wrong with what was read, and there is a heading or none
pub record Clean (headed : Bool) (P : Plan) : Type 0 where
  pub heads : eqb (length P.headings) 0 ≡ not headed
  pub rise : facts_rise P.facts ≡ true
  pub few : ltb 16 (unresolved P.cuts) ≡ false
  pub once : all_of (λ c. decided_once c.decisions) P.cuts ≡ true

abbrev pub plan_reading : Reading Plan
plan_reading = record { formats = plan_formats; add = add_to_plan; judge = judge_plan; Clean = Clean }

-- ---- edges

abbrev pub with_edges : Plan → List Edge → Plan
with_edges P es = record { headings = P.headings; facts = P.facts; nodes = P.nodes; edges = es; cuts = P.cuts; attachments = P.attachments; bars = P.bars; statuses = P.statuses }

abbrev pub edge_seen : List ℕ → ℕ → EdgeFields → Edge
edge_seen s bits x =
    record { left = x.left; right = x.right; condition = x.condition; citation = x.citation; defeaters = bytes_from s x.first x.count; combination = has bits 5 }

abbrev pub edge_read : List ℕ → EdgeSeen → Read (WithBits Edge)
edge_read s (edge.Got bits x n) = got (record { bits = bits; item = edge_seen s bits x }) n
edge_read s edge.Bad = bad

abbrev pub edge_fits : List ℕ → EdgeFields → Type 0
edge_fits s x = (x.count ≤ 16) × (x.first + x.count ≤ length s)

abbrev pub edge_answer_fits : List ℕ → EdgeSeen → Type 0
edge_answer_fits s (edge.Got bits x n) = edge_fits s x
edge_answer_fits s edge.Bad = Unit {0}

-- ---- bars

abbrev pub with_bars : Plan → List Bar → Plan
with_bars P xs = record { headings = P.headings; facts = P.facts; nodes = P.nodes; edges = P.edges; cuts = P.cuts; attachments = P.attachments; bars = xs; statuses = P.statuses }

abbrev pub bar_read : BarSeen → Read (WithBits Bar)
bar_read (bar.Got bits x n) = got (record { bits = bits; item = decoded.bar_of x }) n
bar_read bar.Bad = bad

-- ---- statuses

abbrev pub with_statuses : Plan → List Status → Plan
with_statuses P xs = record { headings = P.headings; facts = P.facts; nodes = P.nodes; edges = P.edges; cuts = P.cuts; attachments = P.attachments; bars = P.bars; statuses = xs }

abbrev pub status_read : StatusSeen → Read (WithBits Status)
status_read (status.Got bits x n) = got (record { bits = bits; item = decoded.status_of x }) n
status_read status.Bad = bad

-- ---- attachments

abbrev pub with_attachments : Plan → List Attachment → Plan
with_attachments P xs = record { headings = P.headings; facts = P.facts; nodes = P.nodes; edges = P.edges; cuts = P.cuts; attachments = xs; bars = P.bars; statuses = P.statuses }

abbrev pub attachment_read : AttachmentSeen → Read (WithBits Attachment)
attachment_read (attachment.Got bits x n) = got (record { bits = bits; item = decoded.attachment_of x }) n
attachment_read attachment.Bad = bad

-- ---- the heading

abbrev pub with_headings : Plan → List Heading → Plan
with_headings P xs = record { headings = xs; facts = P.facts; nodes = P.nodes; edges = P.edges; cuts = P.cuts; attachments = P.attachments; bars = P.bars; statuses = P.statuses }

abbrev pub heading_read : HeadingSeen → Read (WithBits Heading)
heading_read (heading.Got bits relation chain n) = got (record { bits = bits; item = record { relation = relation; chain = if_given (eqb (bits / 2 % 2) 1) chain } }) n
heading_read heading.Bad = bad

-- ---- facts

abbrev pub with_facts : Plan → List Fact → Plan
with_facts P xs = record { headings = P.headings; facts = xs; nodes = P.nodes; edges = P.edges; cuts = P.cuts; attachments = P.attachments; bars = P.bars; statuses = P.statuses }

abbrev pub fact_read : List ℕ → FactSeen → Read (WithBits Fact)
fact_read s (fact.Got bits family at k n) = got (record { bits = bits; item = record { family = if_given (eqb (bits % 2) 1) family; tuple = bytes_from s at k } }) n
fact_read s fact.Bad = bad

abbrev pub fact_fits : List ℕ → FactSeen → Type 0
fact_fits s (fact.Got bits family at k n) = (k ≤ 4) × (at + k ≤ length s) × (eqb (bits / 2 % 2) 1 ≡ false → k ≡ 0)
fact_fits s fact.Bad = Unit {0}

-- ---- nodes

abbrev pub with_nodes : Plan → List Node → Plan
with_nodes P xs = record { headings = P.headings; facts = P.facts; nodes = xs; edges = P.edges; cuts = P.cuts; attachments = P.attachments; bars = P.bars; statuses = P.statuses }

abbrev pub node_seen : List ℕ → ℕ → NodeFields → Node
node_seen s bits x =
    cond (has bits 0) (literal x.literal)
    (cond (has bits 1) (paper.fact x.fact) (cond (has bits 2) (conj (bytes_from s x.ands x.conjuncts)) (cond (has bits 3) (disj (bytes_from s x.ors x.disjuncts)) (neg x.negated))))

abbrev pub node_read : List ℕ → NodeSeen → Read (WithBits Node)
node_read s (node.Got bits x n) = got (record { bits = bits; item = node_seen s bits x }) n
node_read s node.Bad = bad

abbrev pub node_fits : List ℕ → NodeFields → Type 0
node_fits s x = (x.conjuncts ≤ 16) × (x.ands + x.conjuncts ≤ length s) × (x.disjuncts ≤ 16) × (x.ors + x.disjuncts ≤ length s)

abbrev pub node_answer_fits : List ℕ → NodeSeen → Type 0
node_answer_fits s (node.Got bits x n) = node_fits s x
node_answer_fits s node.Bad = Unit {0}

-- ---- cuts

abbrev pub with_cuts : Plan → List Cut → Plan
with_cuts P xs = record { headings = P.headings; facts = P.facts; nodes = P.nodes; edges = P.edges; cuts = xs; attachments = P.attachments; bars = P.bars; statuses = P.statuses }

abbrev pub cut_seen : List ℕ → CutFields → Cut
cut_seen s x = record {
  members = x.members;
  condition = x.condition;
  citation = x.citation;
  election = decoded.election_of x.election;
  decisions = decisions_from (bytes_from s x.pairs (x.decided * 2));
  precedes = bytes_from s x.first x.count;
}

abbrev pub cut_read : List ℕ → CutSeen → Read (WithBits Cut)
cut_read s (cut.Got bits x n) = got (record { bits = bits; item = cut_seen s x }) n
cut_read s cut.Bad = bad

abbrev pub cut_fits : List ℕ → CutFields → Type 0
cut_fits s x = (x.decided ≤ 64) × (x.pairs + x.decided * 2 ≤ length s) × (x.count ≤ 16) × (x.first + x.count ≤ length s)

abbrev pub cut_answer_fits : List ℕ → CutSeen → Type 0
cut_answer_fits s (cut.Got bits x n) = cut_fits s x
cut_answer_fits s cut.Bad = Unit {0}

-- the decisions from number i on
abbrev pub decisions_left : Decisions → ℕ → List Decision
decisions_left d i = map (λ j. record { edge = get_or d.edges j 0; verdict = get_or d.verdicts j 0 }) (numbers (d.count - i) i)
