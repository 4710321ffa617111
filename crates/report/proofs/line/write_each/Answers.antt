use native.Mathlib.Omega.{arith}
use lib.ListN.{length-take, length-drop}
use Rattle.report.specs.paper.Line.{line_length}
use Rattle.report.proofs.LinesAt.{line-length}
use Rattle.report.proofs.PieceLaws.{writing_none, writing_has, writing_room, writing_next, writing_front}
use Rattle.report.proofs.line.write_each.Goals as goal

pub loop-p-init : goal.loop-p-init
loop-p-init g c = rw c.into_iter-p-iterator.ensures.into_iter_gives (writing_none line_length _ _ _ _ c.ranges.persons.fits)

pub make-requires : goal.make-requires
make-requires g c =
    let s = c.in-Some.ensures.steps in
    c.requires.made _ s.first.1 (writing_has line_length c.loop-p.invariant _ _ s)

pub write_line-requires : goal.write_line-requires
write_line-requires g c =
    let r = writing_room line_length c.loop-p.invariant _ _ c.in-Some.ensures.steps (omega (arith, c.requires.room)) in
    simp (length-take, length-drop) (omega arith)

pub loop-p-preserved : goal.loop-p-preserved
loop-p-preserved g c =
    let s = c.in-Some.ensures.steps in
    writing_next line_length c.loop-p.invariant _ _ s _ _ (line-length _) (writing_room line_length c.loop-p.invariant _ _ s (omega (arith, c.requires.room))) c.write_line.ensures
    (λ x. x.1 _ _ s.first.1 (writing_has line_length c.loop-p.invariant _ _ s) c.make.ensures)

pub returns : goal.returns
returns g c f made = writing_front line_length c.loop-p.invariant c.in-None.ensures.steps.0 (f, made)
