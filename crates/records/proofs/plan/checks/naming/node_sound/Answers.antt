-- A node by its sort.
use mathlib.Core.Path.{ap, ◌∙◌}
use Prim.Native.Nat.{ℕ}
use lib.Dec.{ltb}
use Rattle.records.specs.code.Decoded.{node_of, node_by}
use Rattle.records.specs.paper.Plan.{node_sound}
use Rattle.records.proofs.NamingLaws.{neg-sound, list-sound}
use Rattle.records.proofs.plan.checks.naming.node_sound.Goals as goal

pub returns-then-sort-eq0 : goal.returns-then-sort-eq0
unfolding node_of node_sound node_by
returns-then-sort-eq0 c = λ P e. rw c.if-sort-eq0.true

pub returns-then-sort-eq1 : goal.returns-then-sort-eq1
unfolding node_of node_sound node_by
returns-then-sort-eq1 c = λ P e. rw (c.if-sort-eq1.true, e, c.from.ensures)

pub returns-then-sort-ge4 : goal.returns-then-sort-ge4
unfolding node_of
returns-then-sort-ge4 c = λ P e. let s = c.args in
    ap (λ (x : ℕ). ltb x s.k) c.from-then-sort-ge4.ensures ∙ neg-sound P s.k s.node.sort s.node.number _ c.if-sort-ge4.true

pub returns : goal.returns
unfolding node_of
returns c = λ P e. let s = c.args in
    c.all_under.ensures ∙ list-sound P s.k s.node.sort s.node.number _ c.if-sort-eq0.false c.if-sort-eq1.false c.if-sort-ge4.false
