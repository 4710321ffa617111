use mathlib.Core.Path.{ap, sym, ◌∙◌}
use mathlib.Core.Bool.{Bool}
use mathlib.Core.Logic.{⊎_elim}
use mathlib.Core.List.{List}
use Prim.Native.Nat.{ℕ}
use native.Mathlib.Omega.{arith}
use lib.ListN.{length-set, get_or, get_or-eq_default}
use lib.Bits.{bit_and}
use Rattle.sets.specs.paper.Sets.{one, only, meet}
use Rattle.sets.proofs.SetLaws.{has_high, lt_or_le}
use Rattle.sets.proofs.LoopLaws.{get_or-below}
use Rattle.worlds.proofs.ClassLaws.{alone_in, alone_next}
use Rattle.worlds.proofs.classes.alone.Goals as goal

pub loop-p-preserved : goal.loop-p-preserved
unfolding meet
loop-p-preserved c =
    let k = c.loop-p.p in
    let persons = c.args.persons in
    let own = ap (λ (xs : List ℕ). bit_and (get_or xs k 0) persons) c.person_masks-masks.ensures
    ∙ ap (λ (x : ℕ). bit_and x persons) (get_or-below 64 one 0 k c.loop-p-test.true)
    ∙ alone_in persons k in
    record {
      long = simp length-set c.loop-p.invariant.long;
      alone = alone_next persons k _ c.loop-p.classes (omega arith) own c.loop-p.invariant.alone;
    }

pub returns : goal.returns
returns c = record {
  at = λ p. ⊎_elim
      (λ h. c.loop-p.invariant.alone p (omega arith))
      (λ h. get_or-eq_default c.loop-p.classes 0 (omega arith) ∙ ap (λ (b : Bool). only b (one p)) (sym (has_high 64 c.args.persons p c.ranges.persons.fits h)))
      (lt_or_le p 64);
}
