use mathlib.Core.Path.{◌≡◌, refl, sym, ap₂, ◌∙◌}
use native.Mathlib.Omega.{arith}
use native.Mathlib.Numerals.{add-one}
use lib.ListN.{length}
use Rattle.sets.specs.paper.Sets.{union, union_below}
use Rattle.sets.proofs.UnionLaws.{joined_if, left_if}
use Rattle.report.specs.paper.Line.{holding}
use Rattle.report.proofs.lines.unresolved_for_person.Goals as goal
use Rattle.report.proofs.lines.unresolved_for_person.Goals.{else-has_person, then-has_person}

pub loop-i-init : goal.loop-i-init
unfolding union_below
loop-i-init c = refl

pub loop-i-preserved : goal.loop-i-preserved
unfolding union_below union
loop-i-preserved c =
    let e = sym c.has_person.ensures in
    rw add-one (elim c.if-has_person.branch [
      | then-has_person w ↦ w.found-is ∙ ap₂ union c.loop-i.invariant w.bit-found.ensures ∙ joined_if _ _ _ (e ∙ w.if-has_person.true)
      | else-has_person w ↦ w.found-is ∙ c.loop-i.invariant ∙ left_if _ _ _ (e ∙ w.if-has_person.false)
    ])

pub returns : goal.returns
unfolding holding
returns c =
    let e : c.loop-i.i ≡ length c.args.sets.now = omega arith in
    rw (← e) c.loop-i.invariant
