-- `touch::touched`: its three parts joined.
use mathlib.Core.Path.{◌≡◌, ap₂, ◌∙◌}
use native.Mathlib.Omega.{arith}
use Rattle.std.proofs.lemmas.Grind.{common_steps}
use Rattle.sets.specs.paper.Sets.{has, union, only}
use Rattle.expressions.specs.code.Listed.{touched_by}
use Rattle.expressions.proofs.touch.touched.Goals as goal
use Rattle.expressions.proofs.touch.touched.Goals.{else-contains, then-contains}

pub returns : goal.returns
unfolding touched_by
returns c =
    let all : c.if-contains.by_constraints ≡ only (has c.args.constraints c.args.f) c.args.roster =
    (elim c.if-contains.branch [ then-contains w ↦ grind (arith, common_steps) | else-contains w ↦ grind (arith, common_steps) ]) in
    c.union-2.ensures ∙ ap₂ union c.named_persons.ensures (c.union.ensures ∙ ap₂ union all c.users.ensures)
