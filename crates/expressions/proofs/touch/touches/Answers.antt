use Prim.Native.Nat.{ℕ}
use mathlib.Core.Path.{◌≡◌, refl, sym, ap, ◌∙◌}
use mathlib.Core.List.{[]}
use native.Mathlib.Omega.{arith}
use lib.ListN.{length, get_or, length-set}
use Rattle.sets.specs.paper.Sets.{has, only, below, numbers}
use Rattle.records.specs.paper.Plan.{Fact}
use Rattle.records.specs.code.Decoded.{fact_of, facts_of}
use Rattle.expressions.specs.code.Coded.{TupleFits}
use Rattle.expressions.specs.code.Listed.{touched_by, touch_by, touches_by}
use Rattle.expressions.proofs.ListLaws.{made-length, made_at, made_each, holds_none, fill_next}
use Rattle.expressions.proofs.touch.touches.Goals as goal
use Rattle.expressions.proofs.touch.touches.Goals.{else-contains, then-contains}

pub loop-i-init : goal.loop-i-init
unfolding below numbers
loop-i-init c = (refl, holds_none 64 0)

pub touched-requires : goal.touched-requires
touched-requires c =
    let fs = c.args.facts in
    (made_each fact_of fs.items fs.count 64 _ (omega (arith, c.well_formed)) c.min-i-end.ensures TupleFits c.loop-i.i _ (omega arith) c.requires.0, c.requires.1)

pub loop-i-preserved : goal.loop-i-preserved
unfolding touch_by
loop-i-preserved c =
    let a = c.args in
    let i = c.loop-i.i in
    let t : Fact → ℕ = touched_by a.uses.now a.persons.now a.constraints a.roster i in
    let new : c.if-contains.out ≡ only (has a.bound i) (t (get_or (facts_of a.facts) i (record { family = []; tuple = [] }))) =
    (elim c.if-contains.branch [
      | then-contains w ↦ rw (sym c.contains.ensures ∙ w.if-contains.true) (w.out-is ∙ w.touched.ensures
          ∙ ap t (sym (made_at fact_of a.facts.items a.facts.count 64 _ (omega (arith, c.well_formed)) c.min-i-end.ensures i _ _ c.loop-i-test.true)))
      | else-contains w ↦ rw (sym c.contains.ensures ∙ w.if-contains.false) w.out-is
    ]) in
    (simp length-set c.loop-i.invariant.0, fill_next 0 (touch_by a.uses.now a.persons.now a.constraints a.roster a.bound (facts_of a.facts)) c.loop-i.out i c.if-contains.out (omega arith) c.loop-i.invariant.1 new)

pub returns : goal.returns
unfolding touches_by
returns c =
    let fs = c.args.facts in
    let all : length (facts_of fs) ≡ c.loop-i.i = made-length fact_of fs.items fs.count 64 _ (omega (arith, c.well_formed)) c.min-i-end.ensures ∙ omega arith in
    rw all c.loop-i.invariant.1
