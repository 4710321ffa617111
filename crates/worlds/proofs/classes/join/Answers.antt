-- `classes::join`: a set joins nobody new where it is empty or lies within one class; else the classes of its persons become one.
use mathlib.Core.Path.{sym, ap, ◌∙◌}
use Rattle.sets.specs.paper.Sets.{has, lowest}
use Rattle.sets.proofs.SetLaws.{trailing_member}
use Rattle.worlds.proofs.ClassLaws.{joins_nobody, joins-inside, joins-whole}
use Rattle.worlds.proofs.classes.join.Goals as goal
use Rattle.worlds.proofs.classes.join.Goals.{else-set-ne0-via-then-set-ne0+else-not-subset, else-set-ne0-via-else-set-ne0}

pub returns-then-not-subset : goal.returns-then-not-subset
returns-then-not-subset c = joins-whole c.args.set c.gather-whole.result c.args.classes.now c.put.new.table c.ranges.set.fits c.gather-whole.ensures c.put.ensures

pub returns-else-set-ne0 : goal.returns-else-set-ne0
unfolding lowest
returns-else-set-ne0 c = elim c.else-set-ne0.branch [
  | else-set-ne0-via-then-set-ne0+else-not-subset w ↦ joins-inside c.args.set w.low.result c.args.classes.now
      (ap (has c.args.set) w.low.ensures.0 ∙ trailing_member 64 c.args.set c.ranges.set.fits w.if-set-ne0.true)
      (sym w.subset.ensures ∙ w.if-not-subset.false)
  | else-set-ne0-via-else-set-ne0 w ↦ joins_nobody c.args.set c.args.classes.now w.if-set-ne0.false
]
