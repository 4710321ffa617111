use Prim.Native.Nat.{ℕ}
use mathlib.Core.Path.{refl, sym, ap, ◌∙◌}
use mathlib.Core.Bool.{Bool}
use lib.Dec.{eqb}
use lib.ListN.{get_or, drop_of_length-le}
use borrow.Author.Tests.{eq-eqb, ne_eqb}
use borrow.Author.Rules.{rules}
use Rattle.sets.specs.paper.Sets.{any_of}
use Rattle.records.proofs.UsedLaws.{rest-next}
use Rattle.expressions.proofs.ListLaws.{any_go, any_stop}
use Rattle.expressions.proofs.bindable.appears.Goals as goal

pub loop-i-init : goal.loop-i-init
loop-i-init c = (search rules, refl)

pub returns-then-numbers-i : goal.returns-then-numbers-i
returns-then-numbers-i c =
    let l = c in
    let ns = c.args.numbers.now in
    let test : ℕ → Bool = λ e. eqb e c.args.number in
    sym (ap (any_of test) (rest-next ns l.loop-i.i 0 c.loop-i-test.true) ∙ any_stop test (get_or ns l.loop-i.i 0) _ (eq-eqb _ _ c.if-numbers-i.true)) ∙ l.loop-i.invariant.1

pub loop-i-preserved : goal.loop-i-preserved
loop-i-preserved c =
    let l = c in
    let ns = c.args.numbers.now in
    let test : ℕ → Bool = λ e. eqb e c.args.number in
    (search rules, sym (ap (any_of test) (rest-next ns l.loop-i.i 0 c.loop-i-test.true) ∙ any_go test (get_or ns l.loop-i.i 0) _ (ne_eqb _ _ c.if-numbers-i.false)) ∙ l.loop-i.invariant.1)

pub returns : goal.returns
unfolding any_of
returns c =
    let l = c in
    let ns = c.args.numbers.now in
    sym (ap (any_of (λ (e : ℕ). eqb e c.args.number)) (drop_of_length-le ns c.loop-i-test.false)) ∙ l.loop-i.invariant.1
