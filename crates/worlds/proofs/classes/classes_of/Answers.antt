use Rattle.worlds.proofs.ClassLaws.{alone_classes, classes-next, classes_end}
use Rattle.worlds.proofs.classes.classes_of.Goals as goal

pub loop-set-init : goal.loop-set-init
loop-set-init c = alone_classes _ c.alone.ensures

pub loop-set-preserved : goal.loop-set-preserved
loop-set-preserved c = classes-next c.args.sets.now c.loop-set.classes c.join.new.classes c.loop-set.set-index c.loop-set-test.true (c.type_inv.sets c.loop-set.set-index).fits c.join.ensures c.loop-set.invariant

pub returns : goal.returns
returns c = classes_end c.args.sets.now c.loop-set.classes c.loop-set.set-index c.loop-set-test.false c.loop-set.invariant
