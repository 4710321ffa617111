-- Condition and defeaters of an edge.
use Prim.Native.Nat.{ℕ}
use Rattle.records.specs.code.Decoded.{numbers_of, edge_of}
use Rattle.records.specs.code.Named.{all_under}
use mathlib.Core.Path.{ap, ◌∙◌}
use borrow.Author.Tests.{lt-ltb, le-ltb}
use Rattle.records.specs.paper.Plan.{edge_sound}
use Rattle.records.proofs.plan.checks.naming.edge_sound.Goals as goal

pub returns-then-from-nodes : goal.returns-then-from-nodes
unfolding edge_of edge_sound
returns-then-from-nodes c = λ P e. rw (← e, ← c.from.ensures, le-ltb _ _ c.if-from-nodes.true)

pub returns : goal.returns
unfolding edge_of edge_sound
returns c = λ P e. let s = c.args in
    rw (← e, ← c.from.ensures, lt-ltb _ _ c.if-from-nodes.false) (c.all_under.ensures ∙ ap (λ (n : ℕ). all_under n (numbers_of s.edge.defeaters)) e)
