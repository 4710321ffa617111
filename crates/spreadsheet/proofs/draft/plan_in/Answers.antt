use mathlib.Core.Path.{◌≡◌, ap, sym, ◌∙◌}
use mathlib.Core.List.{[], ◌∷◌, ◌++◌}
use Prim.Native.Nat.{suc, ◌+◌, ◌-◌, ◌≤◌, ◌<◌}
use native.Mathlib.Omega.{arith}
use lib.ListN.{length, length-set, drop}
use Rattle.sets.proofs.LoopLaws.{length-made}
use Rattle.records.specs.code.Decoded.{edge_of, status_of, edges_of, statuses_of}
use Rattle.records.proofs.KindLaws.{made_more}
use Rattle.spreadsheet.specs.paper.Table.{rows_from}
use Rattle.spreadsheet.specs.code.RuleSeen.{edge_seen, rule_seen, rule_within, start_seen, start_within}
use Rattle.spreadsheet.specs.declared.rule.Rule.TheVariants.{Joins, Marks}
use Rattle.spreadsheet.specs.declared.rule.Start.TheVariants.{Behind}
use Rattle.spreadsheet.proofs.DraftLaws.{rows_end, rows-bad, rows-edge, rows-edges, rows-status, rows-statuses, tabled-headed, tabled-not}
use Rattle.spreadsheet.proofs.draft.plan_in.Goals as goal

pub returns-in_default : goal.returns-in_default
returns-in_default c =
    let s = c.args.table.now in
    c.refused.ensures ∙ tabled-not s (ap (start_seen s) (sym c.in_default.is) ∙ c.header.ensures.0)

pub loop-at-init : goal.loop-at-init
loop-at-init c =
    let s = c.args.table.now in
    let v = c.in-Behind in
    let w : start_within s (Behind v.first) = rw v.is at c.header.ensures.1 in
    let e = c.no_edges-edges.ensures in
    let t = c.no_statuses-statuses.ensures in
    let f : suc (length s) - 1 ≡ length s = omega arith in (
      omega (arith, w),
      omega (arith, w),
      omega (arith, e.1),
      e.2,
      omega (arith, t.1),
      t.2,
      rw (e.0, t.0) (ap (λ m. rows_from (suc m) (drop v.first s) [] [] 1) f ∙ tabled-headed s (drop v.first s) (ap (start_seen s) (sym v.is) ∙ c.header.ensures.0)),
    )

pub returns-then-n-ge64 : goal.returns-then-n-ge64
returns-then-n-ge64 c =
    let L = c in
    let s = L.args.table.now in
    let i = L.loop-at.invariant in
    let x = L.loop-at.edges in
    let v = c.in-Joins in
    let h : 64 ≤ length (edges_of x) = omega (arith, length-made edge_of x.items x.count (omega (arith, i.2, i.3)), c.if-n-ge64.true) in
    c.refused-then-n-ge64.ensures
    ∙ rows-edges s L.loop-at.at (suc (length s) - L.loop-at.row) L.loop-at.row (edges_of x) (statuses_of L.loop-at.statuses) c.loop-at-test.true (edge_seen v.ends) (drop v.next s) (ap (rule_seen s) (sym v.is) ∙ c.rule_at.ensures.0) h
    ∙ i.6

pub bounds-edges-n : goal.bounds-edges-n
bounds-edges-n c = omega (arith, c.if-n-ge64.false, c.loop-at.invariant.3)

pub overflow_add-row : goal.overflow_add-row
overflow_add-row c = let L = c in omega (arith, L.loop-at.invariant.0, c.loop-at-test.true, L.well_formed)

pub loop-at-smaller-in-Joins : goal.loop-at-smaller-in-Joins
loop-at-smaller-in-Joins c =
    let L = c in
    let s = L.args.table.now in
    let v = c.in-Joins in
    let w : rule_within s L.loop-at.at (Joins v.ends v.next) = rw v.is at c.rule_at.ensures.1 in
    omega (arith, w, c.loop-at-test.true)

pub loop-at-preserved-in-Joins : goal.loop-at-preserved-in-Joins
loop-at-preserved-in-Joins c =
    let L = c in
    let s = L.args.table.now in
    let i = L.loop-at.invariant in
    let x = L.loop-at.edges in
    let v = c.in-Joins in
    let w : rule_within s L.loop-at.at (Joins v.ends v.next) = rw v.is at c.rule_at.ensures.1 in
    let h : length (edges_of x) < 64 = omega (arith, length-made edge_of x.items x.count (omega (arith, i.2, i.3)), c.if-n-ge64.false) in
    let f : suc (suc (length s) - (L.loop-at.row + 1)) ≡ suc (length s) - L.loop-at.row = omega (arith, w, i.0) in
    let m = made_more edge_of x.items x.count c.edge_from.result (omega (arith, i.3, c.if-n-ge64.false)) ∙ ap (λ y. edges_of x ++ (y ∷ [])) c.edge_from.ensures in (
      omega (arith, w, i.0),
      omega (arith, w),
      omega (arith, c.if-n-ge64.false),
      length-set x.items x.count c.edge_from.result ∙ i.3,
      i.4,
      i.5,
      rw (f, m) (rows-edge s L.loop-at.at (suc (length s) - L.loop-at.row) L.loop-at.row (edges_of x) (statuses_of L.loop-at.statuses) c.loop-at-test.true (edge_seen v.ends) (drop v.next s) (ap (rule_seen s) (sym v.is) ∙ c.rule_at.ensures.0) h ∙ i.6),
    )

pub returns-then-n-ge32 : goal.returns-then-n-ge32
returns-then-n-ge32 c =
    let L = c in
    let s = L.args.table.now in
    let i = L.loop-at.invariant in
    let x = L.loop-at.statuses in
    let v = c.in-Marks in
    let h : 32 ≤ length (statuses_of x) = omega (arith, length-made status_of x.items x.count (omega (arith, i.4, i.5)), c.if-n-ge32.true) in
    c.refused-then-n-ge32.ensures
    ∙ rows-statuses s L.loop-at.at (suc (length s) - L.loop-at.row) L.loop-at.row (edges_of L.loop-at.edges) (statuses_of x) c.loop-at-test.true (status_of v.status) (drop v.next s) (ap (rule_seen s) (sym v.is) ∙ c.rule_at.ensures.0) h
    ∙ i.6

pub bounds-statuses-n : goal.bounds-statuses-n
bounds-statuses-n c = omega (arith, c.if-n-ge32.false, c.loop-at.invariant.5)

pub overflow_add-row-in-Marks : goal.overflow_add-row-in-Marks
overflow_add-row-in-Marks c = let L = c in omega (arith, L.loop-at.invariant.0, c.loop-at-test.true, L.well_formed)

pub loop-at-smaller : goal.loop-at-smaller
loop-at-smaller c =
    let L = c in
    let s = L.args.table.now in
    let v = c.in-Marks in
    let w : rule_within s L.loop-at.at (Marks v.status v.next) = rw v.is at c.rule_at.ensures.1 in
    omega (arith, w, c.loop-at-test.true)

pub loop-at-preserved : goal.loop-at-preserved
loop-at-preserved c =
    let L = c in
    let s = L.args.table.now in
    let i = L.loop-at.invariant in
    let x = L.loop-at.statuses in
    let v = c.in-Marks in
    let w : rule_within s L.loop-at.at (Marks v.status v.next) = rw v.is at c.rule_at.ensures.1 in
    let h : length (statuses_of x) < 32 = omega (arith, length-made status_of x.items x.count (omega (arith, i.4, i.5)), c.if-n-ge32.false) in
    let f : suc (suc (length s) - (L.loop-at.row + 1)) ≡ suc (length s) - L.loop-at.row = omega (arith, w, i.0) in
    let m = made_more status_of x.items x.count v.status (omega (arith, i.5, c.if-n-ge32.false)) in (
      omega (arith, w, i.0),
      omega (arith, w),
      i.2,
      i.3,
      omega (arith, c.if-n-ge32.false),
      length-set x.items x.count v.status ∙ i.5,
      rw (f, m) (rows-status s L.loop-at.at (suc (length s) - L.loop-at.row) L.loop-at.row (edges_of L.loop-at.edges) (statuses_of x) c.loop-at-test.true (status_of v.status) (drop v.next s) (ap (rule_seen s) (sym v.is) ∙ c.rule_at.ensures.0) h ∙ i.6),
    )

pub returns-in-Bad : goal.returns-in-Bad
returns-in-Bad c =
    let L = c in
    let s = L.args.table.now in
    c.refused-in-Bad.ensures
    ∙ rows-bad s L.loop-at.at (suc (length s) - L.loop-at.row) L.loop-at.row (edges_of L.loop-at.edges) (statuses_of L.loop-at.statuses) c.loop-at-test.true (ap (rule_seen s) (sym c.in-Bad.is) ∙ c.rule_at.ensures.0)
    ∙ L.loop-at.invariant.6

pub returns : goal.returns
returns c =
    let L = c in
    let s = L.args.table.now in
    c.accepted.ensures
    ∙ rows_end s L.loop-at.at (suc (length s) - L.loop-at.row) L.loop-at.row (edges_of L.loop-at.edges) (statuses_of L.loop-at.statuses) c.loop-at-test.false
    ∙ L.loop-at.invariant.6
