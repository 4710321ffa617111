-- Past one of two limits.
use borrow.Author.Tests.{le-leb, lt-leb}
use Rattle.records.proofs.fields.judge.past.Goals as goal

pub returns-then-limit-n : goal.returns-then-limit-n
returns-then-limit-n c = rw (le-leb _ _ c.if-limit-n.true)

pub returns : goal.returns
returns c = rw (lt-leb _ _ c.if-limit-n.false)
