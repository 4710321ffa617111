-- Circles with one of their clauses left out, by its number.
use Rattle.std.specs.Prelude.{Bool, not, cond, List, [], ◌++◌, ℕ, eqb}
use Rattle.sets.specs.paper.Sets.{has, one, union, meet, meets, set_of, only, close_of, below, union_of}
use Rattle.records.specs.paper.Plan.{Plan, get_fact}
use Rattle.expressions.specs.paper.Rules.{edge_count, cut_count, attachment_count, bar_count, status_count, fact_count, edge, cut, attachment, bar, status, pair, with_anchor}
use Rattle.expressions.specs.paper.Influence.{Frame, uses_at, cut_uses, attachment_uses, bar_uses, status_uses, users_of, constraint_uses, bound_facts, decision_touches}

-- ---- the clauses

-- whom one rule holds
abbrev pub edges : ℕ
edges = 0

abbrev pub cuts : ℕ
cuts = 1

abbrev pub attachments : ℕ
attachments = 2

-- "with anchor"
abbrev pub anchors : ℕ
anchors = 3

abbrev pub bars : ℕ
bars = 4

abbrev pub decisions : ℕ
decisions = 5

-- whom one fact touches: the persons of its tuple
abbrev pub tuples : ℕ
tuples = 6

-- "off-roster names"
abbrev pub strangers : ℕ
strangers = 7

abbrev pub rosters : ℕ
rosters = 8

-- the persons of rules that use it
abbrev pub edge_users : ℕ
edge_users = 9

abbrev pub defeaters : ℕ
defeaters = 10

abbrev pub cut_users : ℕ
cut_users = 11

abbrev pub attachment_users : ℕ
attachment_users = 12

abbrev pub bar_users : ℕ
bar_users = 13

abbrev pub status_users : ℕ
status_users = 14

-- "or one fact touches both"
abbrev pub shared_facts : ℕ
shared_facts = 15

-- no clause is left out
abbrev pub none : ℕ
none = 16

-- ---- what is left

module _ (out : ℕ) where
  abbrev part : ℕ → ℕ → ℕ
  part clause s = only (not (eqb out clause)) s

  abbrev parts : ℕ → List ℕ → List ℕ
  parts clause ss = cond (eqb out clause) [] ss

  unfoldable pub edge_uses_but : Plan → ℕ → ℕ
  edge_uses_but P i = union (uses_at P (edge P i).condition) (part defeaters (union_of (uses_at P) (edge P i).defeaters))

  unfoldable pub touched_but : Frame → ℕ → ℕ
  touched_but F f =
      let P = F.plan in
      union (part tuples (set_of (get_fact P f).tuple))
      (union (part rosters (only (has (constraint_uses F) f) F.roster))
      (union (part edge_users (users_of (edge_count P) (edge_uses_but P) (pair P) f))
      (union (part cut_users (users_of (cut_count P) (cut_uses P) (λ i. (cut P i).members) f))
      (union (part attachment_users (users_of (attachment_count P) (attachment_uses P) (with_anchor P) f))
      (union (part bar_users (users_of (bar_count P) (bar_uses P) (λ i. (bar P i).members) f))
      (part status_users (users_of (status_count P) (status_uses P) (λ i. one (status P i).person) f)))))))

  unfoldable pub touch_but : Frame → ℕ → ℕ
  touch_but F f = only (has (bound_facts F) f) (cond (eqb out strangers) (meet (touched_but F f) F.roster) (touched_but F f))

  unfoldable pub with_anchor_but : Plan → ℕ → ℕ
  with_anchor_but P i = union (attachment P i).members (part anchors (one (attachment P i).anchor))

  unfoldable pub joins_but : Frame → List ℕ
  joins_but F =
      let P = F.plan in
      (parts edges (below (edge_count P) (pair P)) ++ (parts cuts (below (cut_count P) (λ i. (cut P i).members))
      ++ (parts attachments (below (attachment_count P) (with_anchor_but P)) ++ parts bars (below (bar_count P) (λ i. (bar P i).members)))))
      ++ (parts shared_facts (below (fact_count P) (touch_but F)) ++ parts decisions (decision_touches F))

  unfoldable pub touches_but : Frame → ℕ → ℕ → Bool
  touches_but F f p = meets (touch_but F f) (close_of (joins_but F) (one p))
