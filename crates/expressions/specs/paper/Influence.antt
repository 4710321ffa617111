-- Whom a fact or a decision touches, influence, and the circle. Document 01, "Bound facts" and "Circle".
use Rattle.std.specs.Prelude.{Bool, ◌&&◌, cond, List, [], ◌∷◌, ◌++◌, ℕ, zero, suc, length, get_or, eqb}
use Rattle.sets.specs.paper.Sets.{has, one, union, set_of, only, close_of, below, union_below, any_of, union_of, meets}
use Rattle.records.specs.paper.Plan.{Plan, Fact, Edge, Cut, Decision, get_fact}
use Rattle.expressions.specs.paper.Rules.{no_cut, edge_count, cut_count, attachment_count, bar_count, status_count, fact_count, edge, cut, attachment, bar, status, pair, with_anchor, rule_sets}
use Rattle.expressions.specs.paper.Nodes.{node_uses}

-- what circles follow from: "plan, heading and constraints alone"; of the heading it is the roster
pub record Frame : Type 0 where
  pub plan : Plan
  pub roster : ℕ
  pub constraints : List ℕ

-- ---- the unresolved decisions, "by cut and edge"
pub record Open : Type 0 where
  pub cut : ℕ
  pub edge : ℕ

-- whether these decisions have the verdict on the edge
abbrev pub has_verdict : ℕ → ℕ → List Decision → Bool
has_verdict e verdict ds = any_of (λ d. eqb d.edge e && eqb d.verdict verdict) ds

-- those of a cut with these decisions on edges below n, then those of the cuts below n
unfoldable pub open_in : List Decision → ℕ → ℕ → List Open
open_in ds c zero = []
open_in ds c (suc n) = open_in ds c n ++ cond (has_verdict n 3 ds) (record { cut = c; edge = n } ∷ []) []

unfoldable pub open_below : List Cut → ℕ → ℕ → List Open
open_below cs edges zero = []
open_below cs edges (suc n) = open_below cs edges n ++ open_in (get_or cs n no_cut).decisions n edges

-- the facts of an edge's condition and defeaters, where `at` has those of each node
abbrev pub edge_used : (ℕ → ℕ) → Edge → ℕ
edge_used at e = union (at e.condition) (union_of at e.defeaters)

module _ (P : Plan) where
  abbrev pub says : ℕ → ℕ → ℕ → Bool
  says c e verdict = has_verdict e verdict (cut P c).decisions

  unfoldable pub open_decisions : List Open
  open_decisions = open_below P.cuts (edge_count P) (cut_count P)

  abbrev pub decision_count : ℕ
  decision_count = length open_decisions

  unfoldable pub open_decision : ℕ → Open
  open_decision d = get_or open_decisions d (record { cut = 16; edge = 64 })

  -- "for a decision, the cut's members and the edge's ends"
  abbrev pub open_touch : Open → ℕ
  open_touch o = union (cut P o.cut).members (pair P o.edge)

  unfoldable pub decision_touch : ℕ → ℕ
  decision_touch d = open_touch (open_decision d)

  -- ---- the facts that each rule uses
  abbrev pub uses_at : ℕ → ℕ
  uses_at i = get_or (node_uses P) i 0

  unfoldable pub edge_uses : ℕ → ℕ
  edge_uses i = edge_used uses_at (edge P i)

  unfoldable pub cut_uses : ℕ → ℕ
  cut_uses i = uses_at (cut P i).condition

  unfoldable pub attachment_uses : ℕ → ℕ
  attachment_uses i = uses_at (attachment P i).condition

  unfoldable pub bar_uses : ℕ → ℕ
  bar_uses i = uses_at (bar P i).condition

  unfoldable pub status_uses : ℕ → ℕ
  status_uses i = uses_at (status P i).condition

-- "all persons of rules using it (defeaters too)", for one kind of rule
unfoldable pub users_of : ℕ → (ℕ → ℕ) → (ℕ → ℕ) → ℕ → ℕ
users_of n uses persons f = union_below n (λ i. only (has (uses i) f) (persons i))

-- "persons its fact names; the whole roster if a constraint uses it; all persons of rules using it (defeaters too)": of the fact x of number f,
-- by the facts that constraints use and the persons of its rules
abbrev pub touched_with : ℕ → ℕ → ℕ → Fact → ℕ → ℕ
touched_with constraints roster f x users = union (set_of x.tuple) (union (only (has constraints f) roster) users)

module _ (F : Frame) where
  unfoldable pub constraint_uses : ℕ
  constraint_uses = union_of (uses_at F.plan) F.constraints

  -- "Only facts that a condition, defeater or constraint uses are bound"
  unfoldable pub bound_facts : ℕ
  bound_facts =
      let P = F.plan in
      union constraint_uses
      (union (union_below (edge_count P) (edge_uses P))
      (union (union_below (cut_count P) (cut_uses P))
      (union (union_below (attachment_count P) (attachment_uses P))
      (union (union_below (bar_count P) (bar_uses P)) (union_below (status_count P) (status_uses P))))))

  unfoldable pub touched : ℕ → ℕ
  touched f =
      let P = F.plan in
      touched_with constraint_uses F.roster f (get_fact P f)
      (union (users_of (edge_count P) (edge_uses P) (pair P) f)
      (union (users_of (cut_count P) (cut_uses P) (λ i. (cut P i).members) f)
      (union (users_of (attachment_count P) (attachment_uses P) (with_anchor P) f)
      (union (users_of (bar_count P) (bar_uses P) (λ i. (bar P i).members) f)
      (users_of (status_count P) (status_uses P) (λ i. one (status P i).person) f)))))

  -- "Only bound facts count"
  unfoldable pub touch : ℕ → ℕ
  touch f = only (has bound_facts f) (touched f)

  -- whom a fact, then whom a decision touches
  unfoldable pub touches : List ℕ
  touches = below (fact_count F.plan) touch

  unfoldable pub decision_touches : List ℕ
  decision_touches = below (decision_count F.plan) (decision_touch F.plan)

  -- "joined if one edge, cut, attachment with anchor, bar, or unresolved decision's cut and edge holds both, or one fact touches both"
  unfoldable pub joins : List ℕ
  joins = rule_sets F.plan ++ (touches ++ decision_touches)

  -- "A person's circle is that person and all so reached"
  unfoldable pub circle : ℕ → ℕ
  circle p = close_of joins (one p)

  -- "A fact touches a circle if it touches anyone in it"
  unfoldable pub touches_circle : ℕ → ℕ → Bool
  touches_circle f p = meets (touch f) (circle p)
