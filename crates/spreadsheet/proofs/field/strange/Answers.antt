-- `field::strange`: the three bytes.
use borrow.Author.Tests.{eq-eqb, ne_eqb}
use Rattle.spreadsheet.specs.paper.Quoting.{strange}
use Rattle.spreadsheet.proofs.field.strange.Goals as goal

pub returns-then-b-eq34 : goal.returns-then-b-eq34
unfolding strange
returns-then-b-eq34 c = rw (eq-eqb _ 34 c.if-b-eq34.true)

pub returns-then-b-eq13 : goal.returns-then-b-eq13
unfolding strange
returns-then-b-eq13 c = rw (ne_eqb _ 34 c.if-b-eq34.false, eq-eqb _ 13 c.if-b-eq13.true)

pub returns : goal.returns
unfolding strange
returns c = rw (ne_eqb _ 34 c.if-b-eq34.false, ne_eqb _ 13 c.if-b-eq13.false)
