use mathlib.Core.Path.{refl}
use Rattle.worlds.proofs.OverLaws.{changing_next, changing_end}
use Rattle.worlds.proofs.over.put.Goals as goal

pub loop-i-preserved : goal.loop-i-preserved
loop-i-preserved g c = λ past. changing_next _ past (λ i x. refl) c.args.value c.in-Some.ensures.steps refl (c.loop-i.invariant past)

pub returns : goal.returns
returns g c = record { at = λ i past. changing_end _ past c.in-None.ensures.steps.0 (c.loop-i.invariant past) i }
