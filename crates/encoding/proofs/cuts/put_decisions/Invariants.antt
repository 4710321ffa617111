-- `put_decisions`: with the pairs that are left put, all are.
use mathlib.Core.Path.{◌≡◌}
use lib.ListN.{drop}
use Rattle.page.specs.Page.{Page, puts}
use Rattle.encoding.specs.paper.Encoded.{decision_bytes}
use Rattle.encoding.proofs.DecisionBytes.{pairs}
use Rattle.encoding.proofs.cuts.put_decisions.Given as goal

abbrev pub invariant-loop-i : goal.invariant-loop-i
invariant-loop-i l =
    ◌≡◌ {A = Page} (puts (record { count = l.next; out = l.out }) (decision_bytes (drop l.i (pairs l.d.edges l.d.verdicts l.d.count))))
    (puts (record { count = l.initial.next; out = l.initial.out }) (decision_bytes (pairs l.d.edges l.d.verdicts l.d.count)))
