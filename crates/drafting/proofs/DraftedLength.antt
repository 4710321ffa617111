-- How long the plan of a table is: no rule has a list.
use mathlib.Core.Path.{◌≡◌, refl, subst}
use mathlib.Core.List.{List, [], ◌∷◌, ◌++◌, map, flat_map}
use Prim.Native.Nat.{ℕ, ◌+◌, ◌*◌, ◌≤◌}
use native.Mathlib.Nat.{le_trans}
use native.Mathlib.Omega.{arith}
use lib.Dec.{lit≤}
use lib.ListN.{length}
use Rattle.sets.specs.paper.Sets.{All}
use Rattle.records.specs.paper.Plan.{Edge, Status, literal, plan_formats}
use Rattle.spreadsheet.specs.paper.Rows.{Row, row, row_of}
use Rattle.spreadsheet.specs.paper.RowRules.{Rule, joins, marks, bad, rule_of}
use Rattle.spreadsheet.specs.paper.Table.{drafted}
use Rattle.encoding.specs.paper.Encoded.{record_bytes, heading_raw, node_raw, edge_raw, status_raw, plan_bytes, raws_of, bits_of, node_parts, fields_bytes, field_bytes}
use Rattle.drafting.specs.promises.RowByRow.{RowRule, an_edge, a_status, Follows, Headed, edges_in}
use Rattle.encoding.proofs.KindBytes.{edge-bytes, status-bytes}
use Rattle.encoding.proofs.PlanLength.{kind-short, both-short}
use Rattle.drafting.proofs.MadeRules.{rule_made}

-- ---- no defeaters

abbrev pub Bare : Edge → Type 0
Bare e = e.defeaters ≡ []

abbrev BareRule : Rule → Type 0
BareRule (joins e rest) = Bare e
BareRule (marks t rest) = Unit {0}
BareRule bad = Unit {0}

rule_bare : (w : Row) → BareRule (rule_of w)
unfolding rule_of
rule_bare Row.broken = tt
rule_bare (row k l r c rest) = rule_made BareRule tt rest k l r c (λ b x y z _ _ _. refl) (λ x z _ _. tt)

follows_bare : (s : List ℕ) (rs : List RowRule) (rest : List ℕ) → Follows s rs rest → All Bare (edges_in rs)
unfolding edges_in
follows_bare s [] rest h = tt
follows_bare s (an_edge e ∷ rs) rest (next, is, h) = (subst BareRule is (rule_bare (row_of s)), follows_bare next rs rest h)
follows_bare s (a_status t ∷ rs) rest (next, is, h) = follows_bare next rs rest h

pub headed_bare : (s : List ℕ) (rs : List RowRule) (rest : List ℕ) → Headed s rs rest → All Bare (edges_in rs)
headed_bare s rs rest (first, _, h) = follows_bare first rs rest h

-- ---- 3 bytes for the heading, 3 for the node, 6 for an edge, 5 for a status

edge_six : (e : Edge) → Bare e → length (record_bytes plan_formats (edge_raw e)) ≤ 6
edge_six e h = subst (λ (t : List ℕ). length t ≤ 6) (edge-bytes e _ refl) (rw h (lit≤ tt))

status_five : (t : Status) → Unit {0} → length (record_bytes plan_formats (status_raw t)) ≤ 5
status_five t h = subst (λ (s : List ℕ). length s ≤ 5) (status-bytes t) (lit≤ tt)

each : (ts : List Status) → All (λ t. Unit {0}) ts
each [] = tt
each (t ∷ ts) = (tt, each ts)

front : length (flat_map (record_bytes plan_formats) (heading_raw (record { relation = 1; chain = [] }) ∷ node_raw (literal 1) ∷ [])) ≤ 6
unfolding record_bytes fields_bytes field_bytes plan_formats bits_of node_parts flat_map
front = lit≤ tt

pub drafted-short : (es : List Edge) (ts : List Status) → All Bare es → length es ≤ 64 → length ts ≤ 32 → length (plan_bytes (drafted es ts)) ≤ 550
unfolding plan_bytes raws_of
drafted-short es ts h m n =
    let rules = both-short (map edge_raw es) (map status_raw ts) (length es * 6) (length ts * 5) (kind-short edge_raw Bare 6 edge_six es h) (kind-short status_raw (λ t. Unit {0}) 5 status_five ts (each ts)) in
    let all = both-short (heading_raw (record { relation = 1; chain = [] }) ∷ node_raw (literal 1) ∷ []) (map edge_raw es ++ map status_raw ts) 6 (length es * 6 + length ts * 5) front rules in
    le_trans all (omega arith)
