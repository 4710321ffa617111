-- `rows::put_persons`: with the persons left put, the block is put.
use mathlib.Core.Path.{◌≡◌}
use Rattle.sets.specs.paper.Sets.{members}
use Rattle.page.specs.Page.{Page, puts}
use Rattle.listing.specs.Text.{persons}
use Rattle.listing.proofs.PersonLaws.{pending}
use Rattle.listing.proofs.rows.put_persons.Given as goal

abbrev pub invariant-loop-p : goal.invariant-loop-p
invariant-loop-p l =
    ◌≡◌ {A = Page} (puts (record { count = l.next; out = l.out }) (pending l.first (members l.p-iterator.0)))
    (puts (record { count = l.at; out = l.initial.out }) (persons (members l.block)))
