-- The rules of a plan, each by its number, from the entries in use of the arrays that hold them.
use mathlib.Core.Path.{◌≡◌, ap, ◌∙◌}
use Prim.Native.Nat.{ℕ, ◌<◌, min}
use lib.ListN.{length, get_or}
use Rattle.records.specs.paper.Plan.{Plan}
use Rattle.records.specs.code.Decoded.{edge_of, edges_of, cut_of, cuts_of, attachment_of, attachments_of, bar_of, bars_of, status_of, statuses_of}
use Rattle.records.specs.declared.plan as coded
use Rattle.expressions.specs.paper.Rules.{edge_count, cut_count, attachment_count, bar_count, status_count, edge, cut, attachment, bar, status}
use Rattle.expressions.specs.paper.Influence.{open_decisions, decision_count, open_decision}
use Rattle.expressions.specs.code.Undecided.{open_at, opens_of}
use Rattle.expressions.specs.declared.decisions.Undecided.{Undecided}
use Rattle.sets.proofs.LoopLaws.{get_or-below, length-below}
use Rattle.expressions.proofs.ListLaws.{made-length, made_at}

module _ (xs : coded.Edges.Edges) (n : ℕ) (long : length xs.items ≡ 64) (some : n ≡ min xs.count 64) (P : Plan) (is : P.edges ≡ edges_of xs) where
  pub edge-count : edge_count P ≡ n
  edge-count = ap length is ∙ made-length edge_of xs.items xs.count 64 n long some

  pub edge_at : (i : ℕ) (d : coded.Edge.Edge) → i < n → edge P i ≡ edge_of (get_or xs.items i d)
  unfolding edge
  edge_at i d h = rw is (made_at edge_of xs.items xs.count 64 n long some i d _ h)

module _ (xs : coded.Cuts.Cuts) (n : ℕ) (long : length xs.items ≡ 16) (some : n ≡ min xs.count 16) (P : Plan) (is : P.cuts ≡ cuts_of xs) where
  pub cut-count : cut_count P ≡ n
  cut-count = ap length is ∙ made-length cut_of xs.items xs.count 16 n long some

  pub cut_at : (i : ℕ) (d : coded.Cut.Cut) → i < n → cut P i ≡ cut_of (get_or xs.items i d)
  unfolding cut
  cut_at i d h = rw is (made_at cut_of xs.items xs.count 16 n long some i d _ h)

module _ (xs : coded.Attachments.Attachments) (n : ℕ) (long : length xs.items ≡ 32) (some : n ≡ min xs.count 32) (P : Plan) (is : P.attachments ≡ attachments_of xs) where
  pub attachment-count : attachment_count P ≡ n
  attachment-count = ap length is ∙ made-length attachment_of xs.items xs.count 32 n long some

  pub attachment_at : (i : ℕ) (d : coded.Attachment.Attachment) → i < n → attachment P i ≡ attachment_of (get_or xs.items i d)
  unfolding attachment
  attachment_at i d h = rw is (made_at attachment_of xs.items xs.count 32 n long some i d _ h)

module _ (xs : coded.Bars.Bars) (n : ℕ) (long : length xs.items ≡ 32) (some : n ≡ min xs.count 32) (P : Plan) (is : P.bars ≡ bars_of xs) where
  pub bar-count : bar_count P ≡ n
  bar-count = ap length is ∙ made-length bar_of xs.items xs.count 32 n long some

  pub bar_at : (i : ℕ) (d : coded.Bar.Bar) → i < n → bar P i ≡ bar_of (get_or xs.items i d)
  unfolding bar
  bar_at i d h = rw is (made_at bar_of xs.items xs.count 32 n long some i d _ h)

module _ (xs : coded.Statuses.Statuses) (n : ℕ) (long : length xs.items ≡ 32) (some : n ≡ min xs.count 32) (P : Plan) (is : P.statuses ≡ statuses_of xs) where
  pub status-count : status_count P ≡ n
  status-count = ap length is ∙ made-length status_of xs.items xs.count 32 n long some

  pub status_at : (i : ℕ) (d : coded.Status.Status) → i < n → status P i ≡ status_of (get_or xs.items i d)
  unfolding status
  status_at i d h = rw is (made_at status_of xs.items xs.count 32 n long some i d _ h)

module _ (u : Undecided) (P : Plan) (is : open_decisions P ≡ opens_of u) where
  pub decision-count : decision_count P ≡ u.count
  unfolding opens_of
  decision-count = ap length is ∙ length-below u.count (open_at u.cuts u.edges)

  pub decision_at : (i : ℕ) → i < u.count → open_decision P i ≡ open_at u.cuts u.edges i
  unfolding open_decision opens_of
  decision_at i h = rw is (get_or-below u.count (open_at u.cuts u.edges) _ i h)
