use mathlib.Core.Path.{◌≡◌, refl, ◌∙◌, ap}
use Prim.Native.Nat.{ℕ}
use native.Mathlib.Omega.{arith}
use lib.ListN.{length}
use lib.Dec.{ltb}
use Rattle.records.proofs.FactLaws.{lex_short, lex_differ, lex_same, lex_end}
use borrow.Author.Rules.{rules}
use Rattle.records.proofs.plan.checks.fact_order.tuple_less.Goals as goal

pub loop-i-init : goal.loop-i-init
loop-i-init c = (omega arith, omega arith, refl)

pub returns-then-k-i : goal.returns-then-k-i
returns-then-k-i c =
    let a = c.args in
    let la : length a.a ≡ 4 = search rules in
    let lb : length a.b ≡ 4 = search rules in
    lex_short a.a a.b a.m a.n c.loop-i.i (omega (arith, la, c.requires)) (omega (arith, lb, c.requires)) (omega (arith, c.loop-i-test.true, c.from-j.ensures)) (omega (arith, c.if-k-i.true, c.from-k.ensures)) ∙ c.loop-i.invariant.2

pub returns-then-a-i : goal.returns-then-a-i
returns-then-a-i c =
    let a = c.args in
    let la : length a.a ≡ 4 = search rules in
    let lb : length a.b ≡ 4 = search rules in
    lex_differ a.a a.b a.m a.n c.loop-i.i (omega (arith, la, c.requires)) (omega (arith, lb, c.requires)) (omega (arith, c.loop-i-test.true, c.from-j.ensures)) (omega (arith, c.if-k-i.false, c.from-k.ensures)) c.if-a-i.true ∙ c.loop-i.invariant.2

pub loop-i-preserved : goal.loop-i-preserved
loop-i-preserved c =
    let a = c.args in
    let la : length a.a ≡ 4 = search rules in
    let lb : length a.b ≡ 4 = search rules in
    (omega arith, omega arith, lex_same a.a a.b a.m a.n c.loop-i.i (omega (arith, la, c.requires)) (omega (arith, lb, c.requires)) (omega (arith, c.loop-i-test.true, c.from-j.ensures)) (omega (arith, c.if-k-i.false, c.from-k.ensures)) c.if-a-i.false ∙ c.loop-i.invariant.2)

pub returns : goal.returns
returns c =
    let a = c.args in
    let la : length a.a ≡ 4 = search rules in
    let lb : length a.b ≡ 4 = search rules in
    ap (λ (x : ℕ). ltb x c.from-k.result) c.from-j.ensures ∙ ap (ltb a.m) c.from-k.ensures
    ∙ lex_end a.a a.b a.m a.n c.loop-i.i (omega (arith, la, c.requires)) (omega (arith, lb, c.requires)) (omega (arith, c.loop-i-test.false, c.from-j.ensures, c.loop-i.invariant.0)) (omega (arith, c.loop-i.invariant.1, c.from-k.ensures)) ∙ c.loop-i.invariant.2
