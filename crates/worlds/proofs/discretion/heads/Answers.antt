use mathlib.Core.Path.{refl, sym, ap, ◌∙◌, subst}
use Prim.Native.Nat.{ℕ, ◌<◌, ◌^◌}
use native.Mathlib.Nat.{lt_trans}
use native.Mathlib.Omega.{arith}
use lib.ListN.{length, length-set}
use lib.Seq.{get_or-set_same, get_or-set_other}
use Rattle.sets.specs.paper.Sets.{union, minus}
use Rattle.worlds.specs.code.Over.{entry}
use Rattle.worlds.specs.code.Discretion.{loose_by, joined_to}
use Rattle.sets.proofs.TurnLaws.{turn_has}
use Rattle.worlds.proofs.LooseLaws.{found_none, found_all, found_as, found_in, found_out, left_less}
use Rattle.worlds.proofs.ComponentLaws.{renewed-none, renewed_as, renewed-same, renewed-more}
use Rattle.worlds.proofs.discretion.heads.Goals as goal
use Rattle.worlds.proofs.discretion.heads.Goals.{then-loose+then-parts-p, then-loose+else-parts-p, else-loose}

pub loop-m-init : goal.loop-m-init
loop-m-init c =
    let fits = c.ranges.persons.fits in
    (fits, c.told-parts, renewed-none _, λ pairs edges L. found_none _ _ _ _ fits)

pub loop-m-smaller : goal.loop-m-smaller
loop-m-smaller c =
    subst (λ (x : ℕ). x < c.loop-m.m) (sym c.minus-m.ensures) (left_less c.loop-m.m c.others.result _ c.loop-m.invariant.0 c.others.ensures.1)

pub loop-m-preserved : goal.loop-m-preserved
unfolding union
loop-m-preserved c =
    let a = c.args in
    let i = c.loop-m.invariant in
    let o = c.others in
    let test = c.loose in
    let comp = c.component-class in
    let low = c.low-p in
    let t = low.result in
    let ps = c.loop-m.parts in
    let class = comp.result in
    let turn = turn_has _ _ _ i.0 low.ensures o.ensures in
    let fits = lt_trans (left_less c.loop-m.m o.result class i.0 o.ensures.1) i.0 in
    let less : c.minus-m.result < 2 ^ 64 = subst (λ (x : ℕ). x < 2 ^ 64) (sym c.minus-m.ensures) fits in
    elim c.if-loose.branch [
      | then-loose+then-parts-p w ↦ (
        less,
        ap length w.parts-is ∙ length-set ps t class ∙ i.1,
        renewed_as (w.found-is ∙ ap (union c.loop-m.found) w.person_mask-found.ensures) (w.fresh-is ∙ ap (union c.loop-m.fresh) w.person_mask-fresh.ensures) w.parts-is
            (renewed-more _ _ t _ ps i.2 _ (λ p n. get_or-set_other ps t p class 0 n)),
        λ pairs edges L.
            let is = comp.ensures.at pairs edges L in
            found_as (c.minus-m.ensures ∙ ap (minus o.result) is) (w.found-is ∙ ap (union c.loop-m.found) w.person_mask-found.ensures) w.parts-is
            (found_in (loose_by (entry a.lead.now)) a.persons (joined_to pairs edges) c.loop-m.m o.result t c.loop-m.found ps turn o.ensures.1 (i.3 pairs edges L) _ (ap (loose_by (entry a.lead.now)) (sym is) ∙ sym test.ensures ∙ w.if-loose.true)
            (get_or-set_same ps t class 0 (omega (arith, low.ensures.1, i.1)) ∙ is) (λ p n. get_or-set_other ps t p class 0 n)),
      )
      | then-loose+else-parts-p w ↦ (
        less,
        ap length w.parts-is ∙ i.1,
        renewed_as (w.found-is ∙ ap (union c.loop-m.found) w.person_mask-found.ensures) w.fresh-is w.parts-is (renewed-same _ _ t _ ps i.2),
        λ pairs edges L.
            let is = comp.ensures.at pairs edges L in
            found_as (c.minus-m.ensures ∙ ap (minus o.result) is) (w.found-is ∙ ap (union c.loop-m.found) w.person_mask-found.ensures) w.parts-is
            (found_in (loose_by (entry a.lead.now)) a.persons (joined_to pairs edges) c.loop-m.m o.result t c.loop-m.found ps turn o.ensures.1 (i.3 pairs edges L) ps (ap (loose_by (entry a.lead.now)) (sym is) ∙ sym test.ensures ∙ w.if-loose.true) (w.if-parts-p.false ∙ is) (λ p n. refl)),
      )
      | else-loose w ↦ (
        less,
        ap length w.parts-is ∙ i.1,
        renewed_as w.found-is w.fresh-is w.parts-is i.2,
        λ pairs edges L.
            let is = comp.ensures.at pairs edges L in
            found_as (c.minus-m.ensures ∙ ap (minus o.result) is) w.found-is w.parts-is
            (found_out (loose_by (entry a.lead.now)) a.persons (joined_to pairs edges) c.loop-m.m o.result t c.loop-m.found ps turn o.ensures.1 (i.3 pairs edges L)
            (ap (loose_by (entry a.lead.now)) (sym is) ∙ sym test.ensures ∙ w.if-loose.false)),
      )
    ]

pub returns : goal.returns
returns c =
    let i = c.loop-m.invariant in
    record { heads = record { at = λ pairs edges L. found_all _ _ _ _ _ _ c.loop-m-test.false (i.3 pairs edges L) }; fresh = i.2 }
