-- What the code's rules stand for.
use Rattle.std.specs.Prelude.{◌≡◌, List, ℕ, ◌≤◌, ◌<◌, length, drop}
use Rattle.records.specs.paper.Plan as plan
use Rattle.spreadsheet.specs.paper.RowRules as paper
use Rattle.spreadsheet.specs.declared.rule.Ends.{Ends}
use Rattle.spreadsheet.specs.declared.rule.Rule.{Rule}
use Rattle.spreadsheet.specs.declared.rule.Rule.TheVariants.{Joins, Marks, Bad}
use Rattle.spreadsheet.specs.declared.rule.Start.{Start}
use Rattle.spreadsheet.specs.declared.rule.Start.TheVariants.{Behind, None}
use Rattle.records.specs.code.Decoded.{status_of}

abbrev pub edge_seen : Ends → plan.Edge
edge_seen e = paper.edge_between e.combination e.left e.right e.citation

abbrev pub rule_seen : List ℕ → Rule → paper.Rule
rule_seen s (Joins e n) = paper.joins (edge_seen e) (drop n s)
rule_seen s (Marks t n) = paper.marks (status_of t) (drop n s)
rule_seen s Bad = paper.Rule.bad

abbrev pub leaves : ℕ → Rule → Type 0
leaves m (Joins e n) = n ≡ m
leaves m (Marks t n) = n ≡ m
leaves m Bad = Unit {0}

abbrev pub rule_within : List ℕ → ℕ → Rule → Type 0
rule_within s at (Joins e n) = (at < n) × (n ≤ length s)
rule_within s at (Marks t n) = (at < n) × (n ≤ length s)
rule_within s at Bad = Unit {0}

abbrev pub start_seen : List ℕ → Start → paper.Start
start_seen s (Behind n) = paper.behind (drop n s)
start_seen s None = paper.Start.none

abbrev pub start_within : List ℕ → Start → Type 0
start_within s (Behind n) = (0 < n) × (n ≤ length s)
start_within s None = Unit {0}
