-- Wrong bits, or no heading.
use Rattle.records.proofs.fields.judge.unsuited.Goals as goal

pub returns-then-fits : goal.returns-then-fits
returns-then-fits c = rw c.if-fits.true

pub returns : goal.returns
returns c = rw c.if-fits.false
