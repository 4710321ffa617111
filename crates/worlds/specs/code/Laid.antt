-- The rules of a plan in the tables of a case.
use Rattle.std.specs.Prelude.{◌≡◌, false, ◌&&◌, cond, List, [], ◌∷◌, ℕ, ◌<◌, eqb, ltb}
use Rattle.sets.specs.paper.Sets.{has, one, any_of, All}
use Rattle.records.specs.paper.Plan.{Plan, Edge, Cut, Attachment, Bar, Status}
use Rattle.records.specs.promises.Sound.{Person, Citation}
use Rattle.records.specs.declared.plan.Edges.{Edges}
use Rattle.records.specs.declared.plan.Cuts.{Cuts}
use Rattle.records.specs.declared.plan.Attachments.{Attachments}
use Rattle.records.specs.declared.plan.Bars.{Bars}
use Rattle.records.specs.declared.plan.Statuses.{Statuses}
use Rattle.expressions.specs.paper.Rules.{edge_count, cut_count, attachment_count, bar_count, status_count, edge, cut, attachment, bar, status, pair}
use Rattle.expressions.specs.paper.Influence.{Open, says, open_decisions, decision_count, open_decision}
use Rattle.records.specs.code.Decoded.{edges_of, cuts_of, attachments_of, bars_of, statuses_of}
use Rattle.expressions.specs.code.Undecided.{opens_of}
use Rattle.expressions.specs.declared.decisions.Undecided.{Undecided}
use Rattle.worlds.specs.code.Tables.{row}

-- one entry of a row
pub record Laid (k i value : ℕ) (before after : List (List ℕ)) : Type 0 where
  pub at : (j n : ℕ) → row after j n ≡ cond (eqb k j && eqb i n) value (row before j n)

-- the first n entries of a row
pub record Row (t : List (List ℕ)) (k n : ℕ) (value : ℕ → ℕ) : Type 0 where
  pub at : (i : ℕ) → i < n → row t k i ≡ value i

-- all rows but these are as they were
pub record Same (ks : List ℕ) (before after : List (List ℕ)) : Type 0 where
  pub at : (k i : ℕ) → any_of (eqb k) ks ≡ false → row after k i ≡ row before k i

-- ---- numbers that have a place in a mask

abbrev pub EdgeFits : Edge → Type 0
EdgeFits e = Person e.left × Person e.right × Citation e.citation

abbrev pub CutFits : Cut → Type 0
CutFits c = Citation c.citation × All (λ d. d.edge < 64) c.decisions

abbrev pub AttachmentFits : Attachment → Type 0
AttachmentFits a = Person a.anchor × Citation a.citation

abbrev pub BarFits : Bar → Type 0
BarFits b = Citation b.citation

abbrev pub StatusFits : Status → Type 0
StatusFits s = Person s.person × Citation s.citation

abbrev pub OpenFits : Open → Type 0
OpenFits o = (o.cut < 64) × (o.edge < 64)

-- ---- each kind of rule, of every plan that has these

pub record EdgesLaid (edges : Edges) (before after : List (List ℕ)) : Type 0 where
  pub pairs : (P : Plan) → P.edges ≡ edges_of edges → Row after 0 (edge_count P) (pair P)
  pub cites : (P : Plan) → P.edges ≡ edges_of edges → Row after 16 (edge_count P) (λ e. one (edge P e).citation)
  pub same : Same (0 ∷ 16 ∷ []) before after

pub record CutsLaid (cuts : Cuts) (before after : List (List ℕ)) : Type 0 where
  pub members : (P : Plan) → P.cuts ≡ cuts_of cuts → Row after 1 (cut_count P) (λ c. (cut P c).members)
  pub cites : (P : Plan) → P.cuts ≡ cuts_of cuts → Row after 17 (cut_count P) (λ c. one (cut P c).citation)
  pub said : (P : Plan) → P.cuts ≡ cuts_of cuts → (c e : ℕ) → c < cut_count P → has (row after 8 c) e ≡ says P c e 1
  pub same : Same (1 ∷ 17 ∷ 8 ∷ []) before after

pub record AttachmentsLaid (attachments : Attachments) (before after : List (List ℕ)) : Type 0 where
  pub movers : (P : Plan) → P.attachments ≡ attachments_of attachments → Row after 11 (attachment_count P) (λ i. (attachment P i).members)
  pub anchors : (P : Plan) → P.attachments ≡ attachments_of attachments → Row after 12 (attachment_count P) (λ i. one (attachment P i).anchor)
  pub cites : (P : Plan) → P.attachments ≡ attachments_of attachments → Row after 18 (attachment_count P) (λ i. one (attachment P i).citation)
  pub same : Same (11 ∷ 12 ∷ 18 ∷ []) before after

pub record BarsLaid (bars : Bars) (before after : List (List ℕ)) : Type 0 where
  pub members : (P : Plan) → P.bars ≡ bars_of bars → Row after 13 (bar_count P) (λ i. (bar P i).members)
  pub cites : (P : Plan) → P.bars ≡ bars_of bars → Row after 19 (bar_count P) (λ i. one (bar P i).citation)
  pub same : Same (13 ∷ 19 ∷ []) before after

pub record StatusesLaid (statuses : Statuses) (before after : List (List ℕ)) : Type 0 where
  pub persons : (P : Plan) → P.statuses ≡ statuses_of statuses → Row after 14 (status_count P) (λ i. one (status P i).person)
  pub cites : (P : Plan) → P.statuses ≡ statuses_of statuses → Row after 20 (status_count P) (λ i. one (status P i).citation)
  pub same : Same (14 ∷ 20 ∷ []) before after

-- the unresolved decisions, into rows that hold none
pub record DecisionsLaid (undecided : Undecided) (before after : List (List ℕ)) : Type 0 where
  pub edges : (P : Plan) → open_decisions P ≡ opens_of undecided → Row after 10 (decision_count P) (λ d. one (open_decision P d).edge)
  pub opens : (P : Plan) → open_decisions P ≡ opens_of undecided → ((c : ℕ) → row before 9 c ≡ 0)
      → (c d : ℕ) → has (row after 9 c) d ≡ (ltb d (decision_count P) && eqb (open_decision P d).cut c)
  pub same : Same (10 ∷ 9 ∷ []) before after
