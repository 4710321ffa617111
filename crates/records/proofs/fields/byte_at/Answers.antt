-- A byte in its range is read, else the answer is bad.
use borrow.Author.Tests.{le-ltb, lt-ltb, le-leb, lt-leb}
use Rattle.records.specs.paper.Fields.{byte_at}
use Rattle.records.proofs.fields.byte_at.Goals as goal

pub returns-then-s-at : goal.returns-then-s-at
unfolding byte_at
returns-then-s-at c = simp (lt-ltb _ _ c.if-at-s.true, le-leb _ _ c.if-low-s.true, le-leb _ _ c.if-s-at.true)

pub returns-else-s-at : goal.returns-else-s-at
unfolding byte_at
returns-else-s-at c = simp (lt-ltb _ _ c.if-at-s.true, le-leb _ _ c.if-low-s.true, lt-leb _ _ c.if-s-at.false)

pub returns-else-low-s : goal.returns-else-low-s
unfolding byte_at
returns-else-low-s c = simp (lt-ltb _ _ c.if-at-s.true, lt-leb _ _ c.if-low-s.false)

pub returns-else-at-s : goal.returns-else-at-s
unfolding byte_at
returns-else-at-s c = simp (le-ltb _ _ c.if-at-s.false)
