-- The plan of an accepted table is sound.
use mathlib.Core.Path.{◌≡◌, refl, sym, subst}
use mathlib.Core.List.{List, [], ◌∷◌}
use Prim.Native.Nat.{ℕ, ◌≤◌}
use native.Mathlib.Omega.{arith}
use lib.ListN.{length}
use Rattle.sets.specs.paper.Sets.{All}
use Rattle.sets.proofs.Every.{all_then}
use Rattle.records.specs.paper.Fields.{fine}
use Rattle.records.specs.paper.Plan.{Plan, Edge, Status, facts_rise, unresolved, election_faults}
use Rattle.records.specs.promises.Sound.{Person, Citation, SoundEdge, SoundStatus, Sound}
use Rattle.spreadsheet.specs.paper.Rows.{Row, row, row_of}
use Rattle.spreadsheet.specs.paper.RowRules.{Rule, joins, marks, bad, rule_of}
use Rattle.spreadsheet.specs.paper.Table.{drafted, tabled}
use Rattle.drafting.specs.promises.RowByRow.{RowRule, an_edge, a_status, Follows, edges_in, statuses_in}
use Rattle.drafting.proofs.MadeRules.{rule_made}
use Rattle.drafting.proofs.TabledRows.{tabled-rows}

-- an edge and a status of a table: numbers in their ranges, node 0, no defeaters
record FitEdge (e : Edge) : Type 0 where
  left : Person e.left
  right : Person e.right
  condition : e.condition ≡ 0
  citation : Citation e.citation
  defeaters : e.defeaters ≡ []

record FitStatus (t : Status) : Type 0 where
  person : Person t.person
  condition : t.condition ≡ 0
  citation : Citation t.citation

abbrev Fit : Rule → Type 0
Fit (joins e rest) = FitEdge e
Fit (marks t rest) = FitStatus t
Fit bad = Unit {0}

rule_fit : (w : Row) → Fit (rule_of w)
unfolding rule_of
rule_fit (row k l r c rest) = rule_made Fit tt rest k l r c
    (λ b x y z hx hy hz. record { left = omega arith; right = omega arith; condition = refl; citation = omega arith; defeaters = refl })
    (λ x z hx hz. record { person = omega arith; condition = refl; citation = omega arith })
rule_fit Row.broken = tt

rules-fit : (s rest : List ℕ) (rs : List RowRule) → Follows s rs rest → All FitEdge (edges_in rs) × All FitStatus (statuses_in rs)
unfolding edges_in statuses_in
rules-fit s rest [] f = (tt, tt)
rules-fit s rest (an_edge e ∷ rs) (next, h, f) =
    let (a, b) = rules-fit next rest rs f in
    ((subst Fit h (rule_fit (row_of s)), a), b)
rules-fit s rest (a_status t ∷ rs) (next, h, f) =
    let (a, b) = rules-fit next rest rs f in
    (a, (subst Fit h (rule_fit (row_of s)), b))

module _ (es : List Edge) (ts : List Status) where
  edge-sound : (e : Edge) → FitEdge e → SoundEdge (drafted es ts) e
  edge-sound e f = record {
    left = f.left;
    right = f.right;
    condition = rw f.condition (omega arith);
    citation = f.citation;
    defeaters = rw f.defeaters (omega arith, tt);
  }

  status-sound : (t : Status) → FitStatus t → SoundStatus (drafted es ts) t
  status-sound t f = record { person = f.person; condition = rw f.condition (omega arith); citation = f.citation }

  drafted-sound : All FitEdge es → All FitStatus ts → length es ≤ 64 → length ts ≤ 32 → Sound (drafted es ts)
  unfolding facts_rise unresolved election_faults
  drafted-sound a b h k = record {
    heading = refl;
    headings = (record { relation = omega arith; chain = (omega arith, tt) }, tt);
    fact_limit = omega arith;
    facts = tt;
    rise = refl;
    node_limit = omega arith;
    nodes = (omega arith, tt);
    edge_limit = h;
    edges = all_then FitEdge (SoundEdge (drafted es ts)) edge-sound es a;
    cut_limit = omega arith;
    cuts = tt;
    decision_limit = omega arith;
    attachment_limit = omega arith;
    attachments = tt;
    bar_limit = omega arith;
    bars = tt;
    status_limit = k;
    statuses = all_then FitStatus (SoundStatus (drafted es ts)) status-sound ts b;
    elections = tt;
  }

pub tabled-sound : (s : List ℕ) (P : Plan) → tabled s ≡ fine P → Sound P
tabled-sound s P e =
    let (rs, (first, h, f), p, a, b) = tabled-rows s P e in
    let (u, v) = rules-fit first [] rs f in
    subst Sound (sym p) (drafted-sound (edges_in rs) (statuses_in rs) u v a b)
