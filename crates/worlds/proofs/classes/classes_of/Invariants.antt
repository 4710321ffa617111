-- `classes::classes_of`: each person has the class by the sets gone through.
use Prim.Native.Nat.{◌-◌, ◌^◌}
use lib.ListN.{take}
use Rattle.worlds.specs.code.Classes.{ClassesBy}
use Rattle.worlds.proofs.classes.classes_of.Given as goal

abbrev pub invariant-loop-set : goal.invariant-loop-set
invariant-loop-set l = ClassesBy (2 ^ 64 - 1) (take l.set-index l.sets) l.classes
