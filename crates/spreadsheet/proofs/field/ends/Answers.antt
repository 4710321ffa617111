-- `field::ends`: a comma, or one of the three.
use borrow.Author.Tests.{eq-eqb, ne_eqb}
use Rattle.spreadsheet.specs.paper.Quoting.{ends}
use Rattle.spreadsheet.proofs.field.ends.Goals as goal

pub returns-then-b-eq44 : goal.returns-then-b-eq44
unfolding ends
returns-then-b-eq44 c = rw (eq-eqb _ 44 c.if-b-eq44.true)

pub returns : goal.returns
unfolding ends
returns c = rw (ne_eqb _ 44 c.if-b-eq44.false) c.strange.ensures
