-- `draft::plan_in`: with the rows that are left gone through, the table is; a row takes a byte or more.
use mathlib.Core.Path.{◌≡◌}
use Prim.Native.Nat.{suc, ◌+◌, ◌-◌, ◌≤◌}
use lib.ListN.{length, drop}
use Rattle.records.specs.code.Decoded.{edges_of, statuses_of}
use Rattle.spreadsheet.specs.paper.Table.{rows_from, tabled}
use Rattle.spreadsheet.proofs.draft.plan_in.Given as goal

abbrev pub invariant-loop-at : goal.invariant-loop-at
invariant-loop-at l =
    (l.row ≤ l.at + 1) × (l.at ≤ length l.table) × (l.edges.count ≤ 64) × (length l.edges.items ≡ 64) × (l.statuses.count ≤ 32) × (length l.statuses.items ≡ 32)
    × (rows_from (suc (suc (length l.table) - l.row)) (drop l.at l.table) (edges_of l.edges) (statuses_of l.statuses) l.row ≡ tabled l.table)

abbrev pub decreases-loop-at : goal.decreases-loop-at
decreases-loop-at l = length l.table - l.at
