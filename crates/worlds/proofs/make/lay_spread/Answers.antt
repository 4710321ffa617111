use mathlib.Core.Path.{◌≡◌, refl, ap, ◌∙◌}
use Prim.Native.Nat.{ℕ}
use native.Mathlib.Omega.{arith}
use borrow.Author.Rules.{rules}
use Rattle.sets.specs.paper.Sets.{has, one, close_of, any_of}
use Rattle.sets.proofs.SetLaws.{has-none}
use Rattle.worlds.specs.code.Tables.{row}
use Rattle.worlds.proofs.LayLaws.{same_next, laid-here, laid_beside}
use Rattle.worlds.proofs.OverLaws.{turn-is}
use Rattle.worlds.proofs.RelateLaws.{done_next}
use Rattle.worlds.proofs.MakeLaws.{spread_gathered}
use Rattle.worlds.proofs.make.lay_spread.Goals as goal

pub loop-p-preserved : goal.loop-p-preserved
unfolding any_of
loop-p-preserved c =
    let s = c.in-Some.ensures.steps in
    let v = c.loop-p.invariant in
    let laid = c.lay in (
      omega (arith, s.rest.1),
      same_next _ refl laid.ensures v.1,
      done_next (λ p. row laid.new.t 15 p ≡ close_of c.args.rules.now (close_of c.args.influence.now (one p))) c.args.roster _ _ _ (turn-is v.0 s)
          (laid-here laid.ensures
          ∙ spread_gathered c.args.rules.now c.args.influence.now _ _ _ _ s.first.1 (λ i. search rules) c.classes_of-by_rules.ensures c.classes_of-by_influence.ensures c.gather.ensures)
          (λ p q h e. laid_beside p laid.ensures q ∙ v.2 p h e),
    )

pub returns : goal.returns
returns c = record { at = λ p h. c.loop-p.invariant.2 p h (ap (λ (m : ℕ). has m p) c.in-None.ensures.steps.0 ∙ has-none p); same = c.loop-p.invariant.1 }
