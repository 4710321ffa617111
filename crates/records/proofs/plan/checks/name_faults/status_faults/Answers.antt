use mathlib.Core.Path.{◌≡◌, sym, ap, ◌∙◌}
use native.Mathlib.Nat.{min-le_right}
use native.Mathlib.Omega.{arith}
use lib.ListN.{length, get_or}
use lib.Dec.{ltb}
use borrow.Author.Tests.{lt-ltb, le-ltb}
use Rattle.records.specs.paper.Plan as paper
use Rattle.records.specs.code.Decoded.{status_of}
use Rattle.records.specs.code.Named.{status_faults}
use Rattle.records.specs.declared.plan.Status.{Status}
use Rattle.records.proofs.ListLaws.{length_front}
use Rattle.records.proofs.FaultLaws.{none_yet, one_faulty, one-sound, none_left}
use Rattle.records.proofs.plan.checks.name_faults.status_faults.Goals as goal

abbrev none : Status
none = record { person = 0; condition = 0; citation = 0 }

pub loop-k-init : goal.loop-k-init
loop-k-init c =
    let x = c.args.statuses in
    let long : length x.items ≡ 32 = omega (arith, c.well_formed) in
    (omega arith, omega (arith, c.min-count.ensures, min-le_right x.count 32), c.min-count.ensures ∙ sym (length_front status_of x.items x.count 32 long), λ P e. none_yet c.args.first (status_faults P x) P)

pub returns-then-from-nodes : goal.returns-then-from-nodes
unfolding status_of
returns-then-from-nodes c =
    let a = c.args in let l = c.loop-k in
    let w : c.from.result ≡ (get_or a.statuses.items l.k none).condition = c.from.ensures in λ P e.
    one_faulty (λ t. paper.node_number P t.condition) status_of a.statuses.items a.statuses.count _ l.invariant.2 a.first P l.k (l.invariant.3 P e) none c.loop-k-test.true
    (ap (ltb _) (sym e) ∙ le-ltb (get_or a.statuses.items l.k none).condition a.nodes (omega (arith, c.if-from-nodes.true, w)))

pub loop-k-preserved : goal.loop-k-preserved
unfolding status_of
loop-k-preserved c =
    let a = c.args in let l = c.loop-k in
    let w : c.from.result ≡ (get_or a.statuses.items l.k none).condition = c.from.ensures in (
      omega arith,
      l.invariant.1,
      l.invariant.2,
      λ P e.
          one-sound (λ t. paper.node_number P t.condition) status_of a.statuses.items a.statuses.count _ l.invariant.2 a.first P l.k (l.invariant.3 P e) none c.loop-k-test.true
          (ap (ltb _) (sym e) ∙ lt-ltb (get_or a.statuses.items l.k none).condition a.nodes (omega (arith, c.if-from-nodes.false, w))),
    )

pub returns : goal.returns
returns c =
    let a = c.args in let l = c.loop-k in λ P e.
    none_left (λ t. paper.node_number P t.condition) status_of a.statuses.items a.statuses.count _ l.invariant.2 a.first P l.k (l.invariant.3 P e) c.loop-k-test.false
