-- What the code's tests after all records say: each of one record, then of a kind's records, in every plan that has so many records and these boolean facts.
use Rattle.std.specs.Prelude.{◌≡◌, Bool, List, ℕ, ◌≤◌, ltb, length}
use Rattle.sets.specs.paper.Sets.{has, all_of}
use Rattle.records.specs.paper.Plan as paper
use Rattle.records.specs.paper.Fields.{fault, fine, first_fault}
use Rattle.records.specs.code.Check.{checked_of}
use Rattle.records.specs.code.Decoded.{node_of, edge_of, election_of, cut_of, attachment_of, facts_of, nodes_of, edges_of, cuts_of, attachments_of, bars_of, statuses_of}
use Rattle.records.specs.declared.plan.counts.Counts.{Counts}
use Rattle.records.specs.declared.plan.Facts.{Facts}
use Rattle.records.specs.declared.checked.Checked.{Checked}
use Rattle.records.specs.declared.plan.Node.{Node}
use Rattle.records.specs.declared.plan.Edge.{Edge}
use Rattle.records.specs.declared.plan.Election.{Election}
use Rattle.records.specs.declared.plan.Cut.{Cut}
use Rattle.records.specs.declared.plan.Attachment.{Attachment}
use Rattle.records.specs.declared.plan.Statuses.{Statuses}
use Rattle.records.specs.declared.plan.Bars.{Bars}
use Rattle.records.specs.declared.plan.Attachments.{Attachments}
use Rattle.records.specs.declared.plan.Cuts.{Cuts}
use Rattle.records.specs.declared.plan.Edges.{Edges}
use Rattle.records.specs.declared.plan.Nodes.{Nodes}

-- the numbers of records of a plan, and their limits
pub record CountsOf (P : paper.Plan) (r : Counts) : Type 0 where
  pub headings : r.headings ≡ length P.headings
  pub facts : r.facts ≡ length P.facts
  pub nodes : r.nodes ≡ length P.nodes
  pub edges : r.edges ≡ length P.edges
  pub cuts : r.cuts ≡ length P.cuts
  pub attachments : r.attachments ≡ length P.attachments
  pub bars : r.bars ≡ length P.bars
  pub statuses : r.statuses ≡ length P.statuses

pub record CountLimits (r : Counts) : Type 0 where
  pub headings : r.headings ≤ 1
  pub facts : r.facts ≤ 64
  pub nodes : r.nodes ≤ 256
  pub edges : r.edges ≤ 64
  pub cuts : r.cuts ≤ 16
  pub attachments : r.attachments ≤ 32
  pub bars : r.bars ≤ 32
  pub statuses : r.statuses ≤ 32

abbrev pub all_under : ℕ → List ℕ → Bool
all_under bound is = all_of (λ i. ltb i bound) is

abbrev pub all_decide : ℕ → List paper.Decision → Bool
all_decide edges ds = all_of (λ d. ltb d.edge edges) ds

abbrev pub NodeSound : ℕ → ℕ → Node → Bool → Type 0
NodeSound facts k n r = (P : paper.Plan) → facts ≡ length P.facts → r ≡ paper.node_sound P k (node_of n)

abbrev pub EdgeSound : ℕ → Edge → Bool → Type 0
EdgeSound nodes e r = (P : paper.Plan) → nodes ≡ length P.nodes → r ≡ paper.edge_sound P (edge_of e)

-- a set of facts: the boolean ones of a plan
abbrev pub MarksBooleans : paper.Plan → ℕ → Type 0
MarksBooleans P m = (f : ℕ) → has m f ≡ paper.boolean_fact P f

abbrev pub BooleanFacts : Facts → ℕ → Type 0
BooleanFacts fs r = (P : paper.Plan) → facts_of fs ≡ P.facts → MarksBooleans P r

abbrev pub ElectionSound : ℕ → Election → Bool → Type 0
ElectionSound booleans e r = (P : paper.Plan) → MarksBooleans P booleans → r ≡ paper.election_sound P (election_of e)

abbrev pub CutSound : ℕ → Counts → Cut → Bool → Type 0
CutSound booleans n c r = (P : paper.Plan) → MarksBooleans P booleans → CountsOf P n → r ≡ paper.cut_sound P (cut_of c)

abbrev pub AttachmentSound : ℕ → ℕ → Attachment → Bool → Type 0
AttachmentSound booleans nodes a r =
    (P : paper.Plan) → MarksBooleans P booleans → nodes ≡ length P.nodes → r ≡ paper.attachment_sound P (attachment_of a)

-- ---- the first of a kind's records that names what is not there; the kind begins at record `first`

abbrev pub SaysFirst : {A : Type 0} → A → ℕ → List ℕ → Checked → Type 0
SaysFirst a first fs r = r ≡ checked_of (first_fault first fs (fine a))

abbrev pub node_faults : paper.Plan → Nodes → List ℕ
node_faults P x = paper.each_from (λ k n. fault 4 (paper.node_sound P k n)) 0 (nodes_of x)

abbrev pub NodesNamed : ℕ → Nodes → ℕ → Checked → Type 0
NodesNamed facts x first r = (P : paper.Plan) → facts ≡ length P.facts → SaysFirst P first (node_faults P x) r

abbrev pub edge_faults : paper.Plan → Edges → List ℕ
edge_faults P x = paper.faults 4 (paper.edge_sound P) (edges_of x)

abbrev pub EdgesNamed : ℕ → Edges → ℕ → Checked → Type 0
EdgesNamed nodes x first r = (P : paper.Plan) → nodes ≡ length P.nodes → SaysFirst P first (edge_faults P x) r

abbrev pub cut_faults : paper.Plan → Cuts → List ℕ
cut_faults P x = paper.faults 4 (paper.cut_sound P) (cuts_of x)

abbrev pub CutsNamed : ℕ → Counts → Cuts → ℕ → Checked → Type 0
CutsNamed booleans n x first r = (P : paper.Plan) → MarksBooleans P booleans → CountsOf P n → SaysFirst P first (cut_faults P x) r

abbrev pub attachment_faults : paper.Plan → Attachments → List ℕ
attachment_faults P x = paper.faults 4 (paper.attachment_sound P) (attachments_of x)

abbrev pub AttachmentsNamed : ℕ → ℕ → Attachments → ℕ → Checked → Type 0
AttachmentsNamed booleans nodes x first r = (P : paper.Plan) → MarksBooleans P booleans → nodes ≡ length P.nodes → SaysFirst P first (attachment_faults P x) r

abbrev pub bar_faults : paper.Plan → Bars → List ℕ
bar_faults P x = paper.faults 4 (λ b. paper.node_number P b.condition) (bars_of x)

abbrev pub BarsNamed : ℕ → Bars → ℕ → Checked → Type 0
BarsNamed nodes x first r = (P : paper.Plan) → nodes ≡ length P.nodes → SaysFirst P first (bar_faults P x) r

abbrev pub status_faults : paper.Plan → Statuses → List ℕ
status_faults P x = paper.faults 4 (λ t. paper.node_number P t.condition) (statuses_of x)

abbrev pub StatusesNamed : ℕ → Statuses → ℕ → Checked → Type 0
StatusesNamed nodes x first r = (P : paper.Plan) → nodes ≡ length P.nodes → SaysFirst P first (status_faults P x) r
