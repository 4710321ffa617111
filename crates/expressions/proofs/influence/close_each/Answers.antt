use mathlib.Core.Path.{◌≡◌, sym, ap, ◌∙◌}
use mathlib.Core.List.{append-nil}
use Prim.Native.Nat.{ℕ}
use native.Mathlib.Nat.{add-zero}
use native.Mathlib.Omega.{arith}
use lib.ListN.{take}
use Rattle.sets.specs.paper.Sets.{below, numbers}
use Rattle.std.proofs.lemmas.Grind.{common_steps}
use Rattle.expressions.specs.code.Influences.{closed, closed_if}
use Rattle.expressions.proofs.ListLaws.{stored_behind}
use Rattle.expressions.proofs.influence.close_each.Goals as goal
use Rattle.expressions.proofs.influence.close_each.Goals.{then-contains, else-contains}

pub loop-i-init : goal.loop-i-init
unfolding below numbers
loop-i-init c = ap (λ (k : ℕ). take k c.args.known.now) (add-zero c.args.at) ∙ sym (append-nil _)

pub loop-i-preserved : goal.loop-i-preserved
unfolding closed closed_if
loop-i-preserved c =
    let a = c.args in
    let new : c.if-contains.known ≡ closed_if a.groups.now a.wanted a.touches.now c.loop-i.i =
    (elim c.if-contains.branch [ then-contains w ↦ grind (arith, common_steps) | else-contains w ↦ grind (arith, common_steps) ]) in
    stored_behind (closed_if a.groups.now a.wanted a.touches.now) (take a.at a.known.now) c.loop-i.known a.at c.loop-i.i c.if-contains.known (omega arith) new c.loop-i.invariant
