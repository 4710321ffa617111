use Rattle.worlds.proofs.AttachLaws.{regrouped_twice}
use Rattle.worlds.proofs.OverLaws.{changing_next, changing_end}
use Rattle.worlds.proofs.world.regroup.Goals as goal
use Rattle.worlds.proofs.world.regroup.Goals.{else-has_person, then-has_person}

pub loop-p-preserved : goal.loop-p-preserved
loop-p-preserved c =
    changing_next _ 0 (regrouped_twice c.args.target c.args.movers) _ c.in-Some.ensures.steps
    (elim c.if-has_person.branch [
      | then-has_person w ↦ rw (w.blocks-is, ← c.has_person.ensures, w.if-has_person.true)
      | else-has_person w ↦ rw (w.blocks-is, ← c.has_person.ensures, w.if-has_person.false, w.minus.ensures)
    ])
    c.loop-p.invariant

pub returns : goal.returns
returns c = record { at = changing_end _ 0 c.in-None.ensures.steps.0 c.loop-p.invariant }
