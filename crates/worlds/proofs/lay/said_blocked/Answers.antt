use mathlib.Core.Path.{◌≡◌, sym, ap, ◌∙◌}
use mathlib.Core.Bool.{and-true, and-false, or-false}
use mathlib.Core.Logic.{⊎_elim}
use Prim.Native.Nat.{ℕ, ◌<◌, ◌≤◌}
use native.Mathlib.Omega.{arith}
use borrow.Author.Tests.{ne_eqb}
use lib.ListN.{length, get_or, get_or-eq_default}
use Rattle.sets.specs.paper.Sets.{below, numbers, any_of}
use Rattle.records.specs.paper.Plan.{Decision}
use Rattle.records.specs.code.Decoded.{decisions_of}
use Rattle.sets.proofs.SetLaws.{has-none, has_one, has_or, lt_or_le}
use Rattle.expressions.proofs.DecisionLaws.{any_more, any_past, other_verdict}
use Rattle.worlds.proofs.LayLaws.{below_each}
use Rattle.worlds.proofs.lay.said_blocked.Invariants.{given, blocked}
use Rattle.worlds.proofs.lay.said_blocked.Goals as goal
use Rattle.worlds.proofs.lay.said_blocked.Goals.{else-decisions-i-eq1, then-decisions-i-eq1}

pub loop-i-init : goal.loop-i-init
unfolding below numbers any_of
loop-i-init c = has-none

pub bit-found-requires : goal.bit-found-requires
unfolding decisions_of
bit-found-requires c =
    below_each (λ (d : Decision). d.edge < 64) (given c.args.decisions) c.args.decisions.count c.loop-i.i (omega (arith, c.min-n.ensures, c.from.ensures)) c.requires

pub loop-i-preserved : goal.loop-i-preserved
loop-i-preserved c =
    let d = c.args.decisions in
    λ e. rw (any_more (blocked e) (given d) c.loop-i.i, ← c.loop-i.invariant e) (elim c.if-decisions-i-eq1.branch [
      | then-decisions-i-eq1 w ↦ rw (w.found-is, w.bit-found.ensures, has_or, has_one, w.if-decisions-i-eq1.true, and-true)
      | else-decisions-i-eq1 w ↦ rw (w.found-is, ne_eqb (get_or d.verdicts c.loop-i.i 0) 1 w.if-decisions-i-eq1.false, and-false, or-false)
    ])

-- the array may end before the count: past it no verdict is 1
pub returns : goal.returns
unfolding decisions_of
returns c =
    let d = c.args.decisions in
    let long : length d.verdicts ≡ 64 = omega (arith, c.well_formed) in
    let past : (k : ℕ) → 64 ≤ k → get_or d.verdicts k 0 ≡ 0 = λ k h. get_or-eq_default d.verdicts 0 (omega (arith, long, h)) in
    λ e. c.loop-i.invariant e
    ∙ sym (⊎_elim (λ h. let z : d.count ≡ c.loop-i.i = omega (arith, c.min-n.ensures, c.from.ensures) in ap (λ (k : ℕ). any_of (blocked e) (below k (given d))) z)
    (λ h. any_past (blocked e) (given d) c.loop-i.i d.count (omega (arith, c.min-n.ensures, c.from.ensures))
    (λ k p. other_verdict (get_or d.edges k 0) e (get_or d.verdicts k 0) 1 (λ q. omega (arith, past k (omega (arith, c.min-n.ensures, c.from.ensures))))))
    (lt_or_le d.count 64))
