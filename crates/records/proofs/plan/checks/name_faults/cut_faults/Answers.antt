use mathlib.Core.Path.{◌≡◌, sym, ◌∙◌}
use native.Mathlib.Nat.{min-le_right}
use native.Mathlib.Omega.{arith}
use lib.ListN.{length}
use borrow.Author.Tests.{not-true, not-false}
use Rattle.records.specs.paper.Plan as paper
use Rattle.records.specs.code.Decoded.{cut_of}
use Rattle.records.specs.code.Named.{cut_faults}
use Rattle.records.proofs.ListLaws.{length_front}
use Rattle.records.proofs.FaultLaws.{none_yet, one_faulty, one-sound, none_left}
use Rattle.records.proofs.plan.checks.name_faults.cut_faults.Goals as goal

pub loop-k-init : goal.loop-k-init
loop-k-init c =
    let x = c.args.cuts in
    let long : length x.items ≡ 16 = omega (arith, c.well_formed) in
    (omega arith, omega (arith, c.min-count.ensures, min-le_right x.count 16), c.min-count.ensures ∙ sym (length_front cut_of x.items x.count 16 long), λ P e h. none_yet c.args.first (cut_faults P x) P)

pub returns-then-not-cut_sound : goal.returns-then-not-cut_sound
returns-then-not-cut_sound c =
    let a = c.args in let l = c.loop-k in let r = c.cut_sound in λ P e h.
    one_faulty (paper.cut_sound P) cut_of a.cuts.items a.cuts.count _ l.invariant.2 a.first P l.k (l.invariant.3 P e h) _ c.loop-k-test.true
    (sym (r.ensures P e h) ∙ not-true r.result c.if-not-cut_sound.true-raw)

pub loop-k-preserved : goal.loop-k-preserved
loop-k-preserved c =
    let a = c.args in let l = c.loop-k in let r = c.cut_sound in (
      omega arith,
      l.invariant.1,
      l.invariant.2,
      λ P e h.
          one-sound (paper.cut_sound P) cut_of a.cuts.items a.cuts.count _ l.invariant.2 a.first P l.k (l.invariant.3 P e h) _ c.loop-k-test.true
          (sym (r.ensures P e h) ∙ not-false r.result c.if-not-cut_sound.false-raw),
    )

pub returns : goal.returns
returns c =
    let a = c.args in let l = c.loop-k in λ P e h.
    none_left (paper.cut_sound P) cut_of a.cuts.items a.cuts.count _ l.invariant.2 a.first P l.k (l.invariant.3 P e h) c.loop-k-test.false
