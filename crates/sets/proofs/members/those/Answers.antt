use mathlib.Core.Path.{sym, ap, ◌∙◌}
use mathlib.Core.Bool.{true, false, ◌||◌}
use Prim.Native.Nat.{ℕ}
use lib.Dec.{eqb}
use borrow.Author.Tests.{eq-eqb}
use Rattle.sets.specs.paper.Sets.{has, one, union}
use Rattle.sets.proofs.SetLaws.{has-none}
use Rattle.sets.proofs.TurnLaws.{turn_has}
use Rattle.sets.proofs.ThoseLaws.{found_none, found_more, joined, passed, first_has}
use Rattle.sets.proofs.members.those.Goals as goal

pub loop-p-init : goal.loop-p-init
loop-p-init g c = rw c.into_iter-p-iterator.ensures.into_iter_gives (found_none _ _ c.ranges.set.fits)

pub loop-p-preserved-then-test : goal.loop-p-preserved-then-test
unfolding union
loop-p-preserved-then-test g c =
    let s = c.in-Some.ensures.steps in
    let turn = turn_has c.loop-p.p-iterator.0 c.next.new.self.0 c.in-Some.p c.loop-p.invariant.fits s.first s.rest in
    found_more _ _ _ _ _ _ c.loop-p.invariant turn s.rest.1 true c.if-test.ensures _ (λ p. ap (λ (x : ℕ). has (union c.loop-p.found x) p) c.bit-found.ensures ∙ joined c.loop-p.found c.in-Some.p p)

pub loop-p-preserved : goal.loop-p-preserved
loop-p-preserved g c =
    let s = c.in-Some.ensures.steps in
    let turn = turn_has c.loop-p.p-iterator.0 c.next.new.self.0 c.in-Some.p c.loop-p.invariant.fits s.first s.rest in
    found_more _ _ _ _ _ _ c.loop-p.invariant turn s.rest.1 false c.if-test.ensures _ (passed c.loop-p.p-iterator.0 c.loop-p.found c.in-Some.p (first_has _ _ _ turn) c.loop-p.invariant.open_yet)

pub returns-clause-outside : goal.returns-clause-outside
returns-clause-outside g c = c.loop-p.invariant.outside

pub returns-clause-inside : goal.returns-clause-inside
returns-clause-inside g c p e = c.loop-p.invariant.tested p e (ap (λ (x : ℕ). has x p) c.in-None.ensures.steps.0 ∙ has-none p)
