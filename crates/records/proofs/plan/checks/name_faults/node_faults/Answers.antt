use mathlib.Core.Path.{◌≡◌, sym, ◌∙◌}
use native.Mathlib.Nat.{min-le_right}
use native.Mathlib.Omega.{arith}
use lib.ListN.{length}
use borrow.Author.Tests.{not-true, not-false}
use Rattle.records.specs.code.Decoded.{node_of}
use Rattle.records.specs.code.Named.{node_faults}
use Rattle.records.proofs.ListLaws.{length_front}
use Rattle.records.proofs.FaultLaws.{none_yet, node_faulty, node_goes, no_node_left}
use Rattle.records.proofs.plan.checks.name_faults.node_faults.Goals as goal

pub loop-k-init : goal.loop-k-init
loop-k-init c =
    let x = c.args.nodes in
    let long : length x.items ≡ 256 = omega (arith, c.well_formed) in
    (omega arith, omega (arith, c.min-count.ensures, min-le_right x.count 256), c.min-count.ensures ∙ sym (length_front node_of x.items x.count 256 long), λ P e. none_yet c.args.first (node_faults P x) P)

pub returns-then-not-node_sound : goal.returns-then-not-node_sound
returns-then-not-node_sound c =
    let a = c.args in let l = c.loop-k in let r = c.node_sound in λ P e.
    node_faulty P a.nodes.items a.nodes.count _ l.invariant.2 a.first l.k (l.invariant.3 P e) _ c.loop-k-test.true
    (sym (r.ensures P e) ∙ not-true r.result c.if-not-node_sound.true-raw)

pub loop-k-preserved : goal.loop-k-preserved
loop-k-preserved c =
    let a = c.args in let l = c.loop-k in let r = c.node_sound in (
      omega arith,
      l.invariant.1,
      l.invariant.2,
      λ P e.
          node_goes P a.nodes.items a.nodes.count _ l.invariant.2 a.first l.k (l.invariant.3 P e) _ c.loop-k-test.true
          (sym (r.ensures P e) ∙ not-false r.result c.if-not-node_sound.false-raw),
    )

pub returns : goal.returns
returns c =
    let a = c.args in let l = c.loop-k in λ P e.
    no_node_left P a.nodes.items a.nodes.count _ l.invariant.2 a.first l.k (l.invariant.3 P e) c.loop-k-test.false
