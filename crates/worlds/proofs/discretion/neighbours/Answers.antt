use mathlib.Core.Path.{sym, ap, ◌∙◌}
use mathlib.Core.List.{◌∷◌}
use Prim.Native.Nat.{ℕ}
use native.Mathlib.Omega.{arith}
use Rattle.sets.specs.paper.Sets.{union, members}
use Rattle.sets.proofs.UnionLaws.{none-union}
use Rattle.expressions.proofs.ListLaws.{filled_at}
use Rattle.worlds.specs.code.Discretion.{near}
use Rattle.worlds.proofs.LooseLaws.{near-more, near_end}
use Rattle.worlds.proofs.SetTurns.{turn-members}
use Rattle.worlds.proofs.discretion.neighbours.Goals as goal

pub loop-e-init : goal.loop-e-init
loop-e-init c = rw c.into_iter-e-iterator.ensures.into_iter_gives (λ p. ap (λ (x : ℕ). union x (near c.args.pairs.now c.args.edges p)) (filled_at 64 p 0) ∙ none-union _)

pub loop-e-preserved : goal.loop-e-preserved
loop-e-preserved c = λ p.
    near-more c.args.pairs.now c.loop-e.lead c.give.new.table c.loop-e.e-iterator.0 c.next.new.self.0 c.in-Some.e p (turn-members c.in-Some.ensures.steps) (c.give.ensures.at p)
    ∙ c.loop-e.invariant p

pub returns : goal.returns
returns c = λ p. sym (near_end _ c.loop-e.e-iterator.0 p _ c.in-None.ensures.steps.0) ∙ c.loop-e.invariant p
