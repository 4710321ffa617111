-- `rows::put_rows`: with the rows of the lines left put, the rows are put.
use mathlib.Core.Path.{◌≡◌}
use Prim.Native.Nat.{◌-◌}
use Rattle.page.specs.Page.{Page, puts}
use Rattle.report.specs.paper.LineAt.{lines_from}
use Rattle.listing.specs.Text.{rows}
use Rattle.listing.proofs.rows.put_rows.Given as goal

abbrev pub invariant-loop-k : goal.invariant-loop-k
invariant-loop-k l =
    ◌≡◌ {A = Page} (puts (record { count = l.next; out = l.out }) (rows (lines_from l.lines l.k (l.n - l.k))))
    (puts (record { count = l.at; out = l.initial.out }) (rows (lines_from l.lines 0 l.n)))
