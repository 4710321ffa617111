-- The plan's rules by number: whom each holds. Past its count a kind has rules that hold nobody (person 64 stands for nobody).
use Rattle.std.specs.Prelude.{Bool, false, not, List, [], ◌++◌, ℕ, length, get_or, eqb}
use Rattle.sets.specs.paper.Sets.{one, union, below, union_below}
use Rattle.records.specs.paper.Plan.{Plan, Edge, Cut, Attachment, Bar, Status}

-- past the last edge, and past the last cut
abbrev pub no_edge : Edge
no_edge = record { left = 64; right = 64; condition = 256; citation = 0; defeaters = []; combination = false }

abbrev pub no_cut : Cut
no_cut = record { members = 0; condition = 256; citation = 0; election = []; decisions = []; precedes = [] }

-- the ends of an edge
abbrev pub ends_of : Edge → ℕ
ends_of e = union (one e.left) (one e.right)

-- "attachments with anchor"
abbrev pub with_anchor_of : Attachment → ℕ
with_anchor_of a = union a.members (one a.anchor)

module _ (P : Plan) where
  abbrev pub edge_count : ℕ
  edge_count = length P.edges

  abbrev pub cut_count : ℕ
  cut_count = length P.cuts

  abbrev pub attachment_count : ℕ
  attachment_count = length P.attachments

  abbrev pub bar_count : ℕ
  bar_count = length P.bars

  abbrev pub status_count : ℕ
  status_count = length P.statuses

  abbrev pub fact_count : ℕ
  fact_count = length P.facts

  unfoldable pub edge : ℕ → Edge
  edge i = get_or P.edges i no_edge

  unfoldable pub cut : ℕ → Cut
  cut i = get_or P.cuts i no_cut

  unfoldable pub attachment : ℕ → Attachment
  attachment i = get_or P.attachments i (record { members = 0; anchor = 64; condition = 256; citation = 0; actor = 0; election = [] })

  unfoldable pub bar : ℕ → Bar
  bar i = get_or P.bars i (record { members = 0; condition = 256; citation = 0 })

  unfoldable pub status : ℕ → Status
  status i = get_or P.statuses i (record { person = 64; condition = 256; citation = 0 })

  unfoldable pub pair : ℕ → ℕ
  pair i = ends_of (edge i)

  unfoldable pub with_anchor : ℕ → ℕ
  with_anchor i = with_anchor_of (attachment i)

  -- "closed under edges, cuts, attachments with anchor, and bars"
  unfoldable pub rule_sets : List ℕ
  rule_sets =
      below edge_count pair ++ (below cut_count (λ i. (cut i).members) ++ (below attachment_count with_anchor ++ below bar_count (λ i. (bar i).members)))

  -- the persons of all rules
  unfoldable pub rule_persons : ℕ
  rule_persons =
      union (union_below edge_count pair)
      (union (union_below cut_count (λ i. (cut i).members))
      (union (union_below attachment_count with_anchor)
      (union (union_below bar_count (λ i. (bar i).members)) (union_below status_count (λ i. one (status i).person)))))

  -- "Without a base-chain citation"
  unfoldable pub chained : Bool
  chained = not (eqb (length (get_or P.headings 0 (record { relation = 0; chain = [] })).chain) 0)
