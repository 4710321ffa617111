use mathlib.Core.Path.{◌≡◌, sym, ◌∙◌}
use native.Mathlib.Nat.{min-le_right}
use native.Mathlib.Omega.{arith}
use lib.ListN.{length}
use borrow.Author.Tests.{not-true, not-false}
use Rattle.records.specs.paper.Plan as paper
use Rattle.records.specs.code.Decoded.{boolean_of}
use Rattle.records.specs.code.CaseNamed.{boolean_faults}
use Rattle.records.proofs.ListLaws.{length_front}
use Rattle.records.proofs.FaultLaws.{none_yet, one_faulty, one-sound, none_left}
use Rattle.records.proofs.case.naming.boolean_faults.Goals as goal

pub loop-k-init : goal.loop-k-init
loop-k-init c =
    let x = c.args.booleans in
    let long : length x.items ≡ 64 = omega (arith, c.well_formed) in
    (omega arith, omega (arith, c.min-count.ensures, min-le_right x.count 64), c.min-count.ensures ∙ sym (length_front boolean_of x.items x.count 64 long), λ P C e. none_yet c.args.first (boolean_faults P x) C)

pub returns-then-not-contains : goal.returns-then-not-contains
unfolding boolean_of
returns-then-not-contains c =
    let a = c.args in let l = c.loop-k in let r = c.contains in λ P C e.
    one_faulty (λ b. paper.boolean_fact P b.fact) boolean_of a.booleans.items a.booleans.count _ l.invariant.2 a.first C l.k (l.invariant.3 P C e) _ c.loop-k-test.true
    (sym (r.ensures ∙ e _) ∙ not-true r.result c.if-not-contains.true-raw)

pub loop-k-preserved : goal.loop-k-preserved
unfolding boolean_of
loop-k-preserved c =
    let a = c.args in let l = c.loop-k in let r = c.contains in (
      omega arith,
      l.invariant.1,
      l.invariant.2,
      λ P C e.
          one-sound (λ b. paper.boolean_fact P b.fact) boolean_of a.booleans.items a.booleans.count _ l.invariant.2 a.first C l.k (l.invariant.3 P C e) _ c.loop-k-test.true
          (sym (r.ensures ∙ e _) ∙ not-false r.result c.if-not-contains.false-raw),
    )

pub returns : goal.returns
returns c =
    let a = c.args in let l = c.loop-k in λ P C e.
    none_left (λ b. paper.boolean_fact P b.fact) boolean_of a.booleans.items a.booleans.count _ l.invariant.2 a.first C l.k (l.invariant.3 P C e) c.loop-k-test.false
