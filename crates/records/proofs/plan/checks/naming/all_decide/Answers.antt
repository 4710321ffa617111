use Rattle.records.specs.code.Named.{all_under}
use Rattle.records.proofs.ListLaws.{all_goes, all_fails, all_ends}
use mathlib.Core.Path.{◌≡◌, refl, sym, ◌∙◌}
use mathlib.Core.Bool.{true, false}
use Prim.Native.Nat.{ℕ}
use native.Mathlib.Omega.{arith}
use lib.Dec.{ltb}
use lib.ListN.{length, get_or}
use borrow.Author.Tests.{lt-ltb, le-ltb}
use Rattle.records.proofs.NamingLaws.{entries, all_edges}
use Rattle.sets.proofs.LoopLaws.{length-below, get_or-below}
use Rattle.records.proofs.plan.checks.naming.all_decide.Goals as goal

pub loop-i-init : goal.loop-i-init
loop-i-init c = (omega arith, (omega (arith, c.from-count.ensures, c.ranges)), refl)

pub returns-then-from-edges : goal.returns-then-from-edges
returns-then-from-edges c =
    let s = c.args in let l = c.loop-i in let n = c.from-count.result in
    let es = entries s.decisions.edges n in
    let long : length es ≡ n = length-below n _ in
    let t : ltb (get_or es l.i 0) s.edges ≡ false = rw (get_or-below n (λ i. get_or s.decisions.edges i 0) 0 l.i (omega arith), ← c.entry.ensures, ← c.from.ensures) (le-ltb _ _ c.if-from-edges.true) in
    all_fails (λ (x : ℕ). ltb x s.edges) es l.i 0 (all_under s.edges es) (omega arith) t l.invariant.2
    ∙ rw c.from-count.ensures (sym (all_edges (λ (x : ℕ). ltb x s.edges) s.decisions))

pub loop-i-preserved : goal.loop-i-preserved
loop-i-preserved c =
    let s = c.args in let l = c.loop-i in let n = c.from-count.result in
    let es = entries s.decisions.edges n in
    let long : length es ≡ n = length-below n _ in
    let t : ltb (get_or es l.i 0) s.edges ≡ true = rw (get_or-below n (λ i. get_or s.decisions.edges i 0) 0 l.i (omega arith), ← c.entry.ensures, ← c.from.ensures) (lt-ltb _ _ c.if-from-edges.false) in
    (omega arith, omega arith, all_goes (λ (x : ℕ). ltb x s.edges) es l.i 0 (all_under s.edges es) (omega arith) t l.invariant.2)

pub returns : goal.returns
returns c =
    let s = c.args in let l = c.loop-i in let n = c.from-count.result in
    let es = entries s.decisions.edges n in
    let long : length es ≡ n = length-below n _ in
    all_ends (λ (x : ℕ). ltb x s.edges) es l.i (all_under s.edges es) (omega arith) l.invariant.2
    ∙ rw c.from-count.ensures (sym (all_edges (λ (x : ℕ). ltb x s.edges) s.decisions))
