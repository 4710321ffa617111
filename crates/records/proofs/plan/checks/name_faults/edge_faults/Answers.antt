use mathlib.Core.Path.{◌≡◌, sym, ◌∙◌}
use native.Mathlib.Nat.{min-le_right}
use native.Mathlib.Omega.{arith}
use lib.ListN.{length}
use borrow.Author.Tests.{not-true, not-false}
use Rattle.records.specs.paper.Plan as paper
use Rattle.records.specs.code.Decoded.{edge_of}
use Rattle.records.specs.code.Named.{edge_faults}
use Rattle.records.proofs.ListLaws.{length_front}
use Rattle.records.proofs.FaultLaws.{none_yet, one_faulty, one-sound, none_left}
use Rattle.records.proofs.plan.checks.name_faults.edge_faults.Goals as goal

pub loop-k-init : goal.loop-k-init
loop-k-init c =
    let x = c.args.edges in
    let long : length x.items ≡ 64 = omega (arith, c.well_formed) in
    (omega arith, omega (arith, c.min-count.ensures, min-le_right x.count 64), c.min-count.ensures ∙ sym (length_front edge_of x.items x.count 64 long), λ P e. none_yet c.args.first (edge_faults P x) P)

pub returns-then-not-edge_sound : goal.returns-then-not-edge_sound
returns-then-not-edge_sound c =
    let a = c.args in let l = c.loop-k in let r = c.edge_sound in λ P e.
    one_faulty (paper.edge_sound P) edge_of a.edges.items a.edges.count _ l.invariant.2 a.first P l.k (l.invariant.3 P e) _ c.loop-k-test.true
    (sym (r.ensures P e) ∙ not-true r.result c.if-not-edge_sound.true-raw)

pub loop-k-preserved : goal.loop-k-preserved
loop-k-preserved c =
    let a = c.args in let l = c.loop-k in let r = c.edge_sound in (
      omega arith,
      l.invariant.1,
      l.invariant.2,
      λ P e.
          one-sound (paper.edge_sound P) edge_of a.edges.items a.edges.count _ l.invariant.2 a.first P l.k (l.invariant.3 P e) _ c.loop-k-test.true
          (sym (r.ensures P e) ∙ not-false r.result c.if-not-edge_sound.false-raw),
    )

pub returns : goal.returns
returns c =
    let a = c.args in let l = c.loop-k in λ P e.
    none_left (paper.edge_sound P) edge_of a.edges.items a.edges.count _ l.invariant.2 a.first P l.k (l.invariant.3 P e) c.loop-k-test.false
