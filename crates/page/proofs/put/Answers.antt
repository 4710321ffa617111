-- `put`: where there is room, or not.
use borrow.Author.Tests.{lt-ltb, le-ltb}
use Rattle.page.proofs.put.Goals as goal

pub returns-then-at-out : goal.returns-then-at-out
returns-then-at-out c = simp (lt-ltb _ _ c.if-at-out.true)

pub returns : goal.returns
returns c = simp (le-ltb _ _ c.if-at-out.false)
