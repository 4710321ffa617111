use Rattle.records.specs.declared.plan.Decisions.{Decisions}
use Rattle.records.specs.paper.Plan.{decided_in}
use mathlib.Core.Path.{◌≡◌, refl, sym, ap, ◌∙◌}
use mathlib.Core.Bool.{Bool, true, false, not}
use Prim.Native.Nat.{ℕ}
use native.Mathlib.Omega.{arith}
use lib.Dec.{eqb}
use lib.ListN.{length, get_or}
use borrow.Author.Tests.{eq-eqb, ne_eqb}
use Rattle.sets.specs.paper.Sets.{all_of}
use Rattle.records.specs.paper.Plan as paper
use Rattle.records.specs.code.Decoded.{decisions_of}
use Rattle.sets.proofs.LoopLaws.{length-below, get_or-below}
use Rattle.records.proofs.ListLaws.{all_goes, all_fails, all_ends, any_not}
use Rattle.records.proofs.NamingLaws.{entries, all_edges}
use Rattle.records.proofs.plan.checks.crossing.decided.Goals as goal

abbrev other : ℕ → ℕ → Bool
other edge x = not (eqb x edge)

decides_not : (d : Decisions) (edge : ℕ) → not (all_of (other edge) (entries d.edges d.count)) ≡ decided_in (decisions_of d) edge
decides_not d edge = ap not (sym (all_edges (other edge) d)) ∙ sym (any_not (λ (x : paper.Decision). eqb x.edge edge) (decisions_of d))

pub loop-i-init : goal.loop-i-init
loop-i-init c = (omega arith, (omega (arith, c.from-count.ensures, c.ranges)), refl)

pub returns-then-from-edge : goal.returns-then-from-edge
returns-then-from-edge c =
    let s = c.args in let l = c.loop-i in let n = c.from-count.result in let f = other s.edge in
    let es = entries s.decisions.edges n in
    let long : length es ≡ n = length-below n _ in
    let t : f (get_or es l.i 0) ≡ false = rw (get_or-below n (λ i. get_or s.decisions.edges i 0) 0 l.i (omega arith), ← c.entry.ensures, ← c.from.ensures, eq-eqb _ _ c.if-from-edge.true) in
    ap not (all_fails f es l.i 0 (all_of f es) (omega arith) t l.invariant.2) ∙ rw c.from-count.ensures (decides_not s.decisions s.edge)

pub loop-i-preserved : goal.loop-i-preserved
loop-i-preserved c =
    let s = c.args in let l = c.loop-i in let n = c.from-count.result in let f = other s.edge in
    let es = entries s.decisions.edges n in
    let long : length es ≡ n = length-below n _ in
    let t : f (get_or es l.i 0) ≡ true = rw (get_or-below n (λ i. get_or s.decisions.edges i 0) 0 l.i (omega arith), ← c.entry.ensures, ← c.from.ensures, ne_eqb _ _ c.if-from-edge.false) in
    (omega arith, omega arith, all_goes f es l.i 0 (all_of f es) (omega arith) t l.invariant.2)

pub returns : goal.returns
returns c =
    let s = c.args in let l = c.loop-i in let n = c.from-count.result in let f = other s.edge in
    let es = entries s.decisions.edges n in
    let long : length es ≡ n = length-below n _ in
    ap not (all_ends f es l.i (all_of f es) (omega arith) l.invariant.2) ∙ rw c.from-count.ensures (decides_not s.decisions s.edge)
