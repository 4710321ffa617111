-- Condition, election, decisions and preceded cuts of a cut.
use mathlib.Core.Path.{◌≡◌, sym, ap, ◌∙◌}
use mathlib.Core.Bool.{true, false}
use Prim.Native.Nat.{ℕ}
use lib.ListN.{length}
use borrow.Author.Tests.{lt-ltb, le-ltb, not-true, not-false}
use Rattle.records.specs.code.Decoded.{cut_of, decisions_of, numbers_of}
use Rattle.records.specs.paper.Plan.{cut_sound}
use Rattle.records.specs.code.Named.{all_under, all_decide}
use Rattle.records.proofs.plan.checks.naming.cut_sound.Goals as goal

pub returns-then-from-counts : goal.returns-then-from-counts
unfolding cut_of cut_sound
returns-then-from-counts c = λ P f n. rw (← n.nodes, ← c.from.ensures, le-ltb _ _ c.if-from-counts.true)

pub returns-then-not-election_sound : goal.returns-then-not-election_sound
unfolding cut_of cut_sound
returns-then-not-election_sound c = λ P f n.
    let e = sym (c.election_sound.ensures P f) ∙ not-true _ c.if-not-election_sound.true-raw in
    rw (← n.nodes, ← c.from.ensures, lt-ltb _ _ c.if-from-counts.false, e)

pub returns-then-not-all_decide : goal.returns-then-not-all_decide
unfolding cut_of cut_sound
returns-then-not-all_decide c = λ P f n.
    let ds = decisions_of c.args.cut.decisions in
    let e = sym (c.election_sound.ensures P f) ∙ not-false _ c.if-not-election_sound.false-raw in
    let d : all_decide (length P.edges) ds ≡ false = ap (λ (k : ℕ). all_decide k ds) (sym n.edges) ∙ sym c.all_decide.ensures ∙ not-true _ c.if-not-all_decide.true-raw in
    rw (← n.nodes, ← c.from.ensures, lt-ltb _ _ c.if-from-counts.false, e, d)

pub returns : goal.returns
unfolding cut_of cut_sound
returns c = λ P f n.
    let cut = c.args.cut in
    let ds = decisions_of cut.decisions in
    let e = sym (c.election_sound.ensures P f) ∙ not-false _ c.if-not-election_sound.false-raw in
    let d : all_decide (length P.edges) ds ≡ true = ap (λ (k : ℕ). all_decide k ds) (sym n.edges) ∙ sym c.all_decide.ensures ∙ not-false _ c.if-not-all_decide.false-raw in
    rw (← n.nodes, ← c.from.ensures, lt-ltb _ _ c.if-from-counts.false, e, d) (c.all_under.ensures ∙ ap (λ (k : ℕ). all_under k (numbers_of cut.precedes)) n.cuts)
