-- `put_each`: with the records that are left put, all are.
use mathlib.Core.Path.{◌≡◌}
use mathlib.Core.List.{flat_map}
use lib.ListN.{drop}
use Rattle.page.specs.Page.{Page, puts}
use Rattle.encoding.proofs.each.put_each.Given as goal

abbrev pub invariant-loop-x : goal.invariant-loop-x
invariant-loop-x g l =
    ◌≡◌ {A = Page} (puts (record { count = l.next; out = l.out }) (flat_map g.T.Record.bytes (drop l.x-index l.records)))
    (puts (record { count = l.at; out = l.initial.out }) (flat_map g.T.Record.bytes l.records))
