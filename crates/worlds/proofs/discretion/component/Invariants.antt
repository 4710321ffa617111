-- `discretion::component`: what is found so far is of the component, and grows until nobody is added.
use Prim.Native.Nat.{◌-◌, ◌<◌, ◌^◌}
use Rattle.worlds.proofs.ComponentLaws.{Grown}
use Rattle.worlds.proofs.discretion.component.Given as goal

abbrev pub invariant-loop-part : goal.invariant-loop-part
invariant-loop-part l = (l.part < 2 ^ 64) × Grown l.lead l.p l.part

abbrev pub decreases-loop-part : goal.decreases-loop-part
decreases-loop-part l = 2 ^ 64 - l.part
