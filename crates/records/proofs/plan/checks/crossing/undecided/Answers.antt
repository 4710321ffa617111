-- One cut and one edge.
use mathlib.Core.Path.{◌≡◌, sym, ap, ◌∙◌}
use mathlib.Core.Bool.{true, false, not, beq}
use borrow.Author.Tests.{not-true, not-false}
use Rattle.records.specs.paper.Plan.{decided_in, crosses}
use Rattle.records.specs.code.Decoded.{cut_of, edge_of, decisions_of}
use Rattle.records.specs.code.Crossings.{is_open}
use Rattle.records.proofs.plan.checks.crossing.undecided.Goals as goal

pub returns-then-not-edge : goal.returns-then-not-edge
unfolding is_open crosses cut_of edge_of
returns-then-not-edge c = λ P x m d. rw (not-true c.args.edge.combination c.if-not-edge.true)

pub returns-then-left-right : goal.returns-then-left-right
unfolding is_open crosses cut_of edge_of
returns-then-left-right c = λ P x m d. let s = c.args in
    let t : beq c.has_person-left.result c.has_person-right.result ≡ true = c.if-left-right.true in
    rw (m, not-false s.edge.combination c.if-not-edge.false, ← c.has_person-left.ensures, ← c.has_person-right.ensures, t)

pub returns : goal.returns
unfolding is_open crosses cut_of edge_of
returns c = λ P x m d. let s = c.args in
    let t : beq c.has_person-left.result c.has_person-right.result ≡ false = c.if-left-right.false in
    rw (m, not-false s.edge.combination c.if-not-edge.false, ← c.has_person-left.ensures, ← c.has_person-right.ensures, t) (ap not (c.decided.ensures ∙ ap (λ z. decided_in (decisions_of z) s.number) (sym d)))
