use mathlib.Core.Path.{◌≡◌, refl, ◌∙◌}
use mathlib.Core.Bool.{true, false}
use Prim.Native.Nat.{ℕ}
use native.Mathlib.Omega.{arith}
use lib.ListN.{length, get_or, take}
use lib.Seq.{length-take-le, get_or-take}
use lib.Dec.{ltb}
use borrow.Author.Rules.{rules}
use borrow.Author.Tests.{lt-ltb, le-ltb}
use Rattle.records.specs.code.Named.{all_under}
use Rattle.records.specs.code.Decoded.{numbers_of}
use Rattle.records.proofs.ListLaws.{all_goes, all_fails, all_ends, take_min}
use Rattle.records.proofs.plan.checks.naming.all_under.Goals as goal

pub loop-i-init : goal.loop-i-init
loop-i-init c = (omega arith, omega (arith, c.min-count.ensures), refl)

pub returns-then-from-bound : goal.returns-then-from-bound
unfolding numbers_of
returns-then-from-bound c =
    let s = c in let l = c.loop-i in
    let xs = s.args.n.items in let n = c.min-count.result in let b = s.args.bound in
    let long : length xs ≡ 16 = search rules in
    let front : length (take n xs) ≡ n = length-take-le n xs (omega arith) in
    let t : ltb (get_or (take n xs) l.i 0) b ≡ false = rw (get_or-take n xs l.i 0 (omega arith), ← c.from-in-loop-i.ensures) (le-ltb _ _ c.if-from-bound.true) in
    all_fails (λ (x : ℕ). ltb x b) (take n xs) l.i 0 (all_under b (take n xs)) (omega arith) t l.invariant.2 ∙ rw (c.min-count.ensures, take_min _ 16 xs long, c.from.ensures)

pub loop-i-preserved : goal.loop-i-preserved
loop-i-preserved c =
    let s = c in let l = c.loop-i in
    let xs = s.args.n.items in let n = c.min-count.result in let b = s.args.bound in
    let long : length xs ≡ 16 = search rules in
    let front : length (take n xs) ≡ n = length-take-le n xs (omega arith) in
    let t : ltb (get_or (take n xs) l.i 0) b ≡ true = rw (get_or-take n xs l.i 0 (omega arith), ← c.from-in-loop-i.ensures) (lt-ltb _ _ c.if-from-bound.false) in
    (omega arith, omega arith, all_goes (λ (x : ℕ). ltb x b) (take n xs) l.i 0 (all_under b (take n xs)) (omega arith) t l.invariant.2)

pub returns : goal.returns
unfolding numbers_of
returns c =
    let s = c in let l = c.loop-i in
    let xs = s.args.n.items in let n = c.min-count.result in let b = s.args.bound in
    let long : length xs ≡ 16 = search rules in
    let front : length (take n xs) ≡ n = length-take-le n xs (omega arith) in
    all_ends (λ (x : ℕ). ltb x b) (take n xs) l.i (all_under b (take n xs)) (omega arith) l.invariant.2 ∙ rw (c.min-count.ensures, take_min _ 16 xs long, c.from.ensures)
