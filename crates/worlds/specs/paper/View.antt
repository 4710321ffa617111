-- What one world says of a person. Document 01: the roles and kinds of "Line and event", and "Citations".
use Rattle.std.specs.Prelude.{Bool, ◌&&◌, ◌||◌, cond, ℕ}
use Rattle.sets.specs.paper.Sets.{has, one, union, meet, minus, only, meets, union_below}
use Rattle.records.specs.paper.Plan.{Plan}
use Rattle.expressions.specs.paper.Rules.{edge_count, cut_count, attachment_count, bar_count, status_count, edge, cut, attachment, bar, status, pair}
use Rattle.expressions.specs.paper.Nodes.{on}
use Rattle.worlds.specs.paper.World.{World, marked, block_of, about}

-- block 0: none; role: 0 none, 1 member, 2 excluded, 3 barred; kind: 0, or the mark's, 3 overlap, 4 discretion
pub record View : Type 0 where
  pub block : ℕ
  pub role : ℕ
  pub kind : ℕ
  pub citations : ℕ

-- a person's role: "then an active status excludes"
unfoldable pub role_of : World → ℕ → ℕ
role_of w p = cond (has w.excluded p) 2 (cond (has w.barred p) 3 1)

-- a set of citations is a mask, "Citations … are 0–63"
abbrev pub cites : ℕ → (ℕ → Bool) → (ℕ → ℕ) → ℕ
cites n test citation = union_below n (λ i. only (test i) (one (citation i)))

module _ (P : Plan) (w : World) where
  -- "frozen edges within the block"
  unfoldable pub edge_citations : ℕ → ℕ
  edge_citations b =
      cites (edge_count P) (λ i. meets b (pair P i) && (on w.active.frozen i && (has b (edge P i).left && has b (edge P i).right))) (λ i. (edge P i).citation)

  -- one end of the edge in m, the other in the block
  unfoldable pub leads : ℕ → ℕ → ℕ → Bool
  leads b m e = (has b (edge P e).left && has m (edge P e).right) || (has b (edge P e).right && has m (edge P e).left)

  -- "applied cuts holding the person or one end of a frozen edge whose other end is in the block"
  unfoldable pub cut_citations : ℕ → ℕ → ℕ
  cut_citations p b =
      cites (cut_count P)
      (λ c. on w.applied c && (has (cut P c).members p || about (edge_count P) (pair P) b (λ e. on w.active.frozen e && leads b (cut P c).members e)))
      (λ c. (cut P c).citation)

  -- "active or not, attachments with anchor and some member in the block"
  unfoldable pub attachment_citations : ℕ → ℕ
  attachment_citations b =
      cites (attachment_count P) (λ i. has b (attachment P i).anchor && meets b (attachment P i).members) (λ i. (attachment P i).citation)

  -- "bars naming a barred person of the block"
  unfoldable pub bar_citations : ℕ → ℕ
  bar_citations b = cites (bar_count P) (λ i. meets b (meet (bar P i).members (minus w.barred w.excluded))) (λ i. (bar P i).citation)

  -- "statuses naming an excluded one of it"
  unfoldable pub status_citations : ℕ → ℕ
  status_citations b =
      cites (status_count P) (λ i. has b (status P i).person && has w.excluded (status P i).person) (λ i. (status P i).citation)

  unfoldable pub citations : ℕ → ℕ → ℕ
  citations p b =
      union (edge_citations b) (union (cut_citations p b) (union (attachment_citations b) (union (bar_citations b) (status_citations b))))

  -- a mark leaves no block; "overlap …, over discretion"
  unfoldable pub view : ℕ → View
  view p =
      cond (has (marked w.marks) p)
      (record { block = 0; role = 0; kind = cond (has w.marks.overlap p) 3 4; citations = 0 })
      (record { block = block_of w.state p; role = role_of w p; kind = 0; citations = citations p (block_of w.state p) })
