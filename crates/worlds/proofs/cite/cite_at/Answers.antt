use mathlib.Core.Path.{◌≡◌, refl, sym, ap, ◌∙◌, subst}
use mathlib.Core.Bool.{Bool}
use Prim.Native.Nat.{ℕ, ◌<◌, ◌^◌}
use native.Mathlib.Nat.{lt_trans, lt_of_le_of_lt}
use native.Mathlib.Omega.{arith}
use lib.ListN.{length, length-set}
use lib.Dec.{eqb}
use borrow.Author.Tests.{eqb-true, eq-eqb, ne_eqb}
use Rattle.sets.specs.paper.Sets.{union, only}
use Rattle.worlds.specs.code.Over.{entry}
use Rattle.worlds.specs.code.Citing.{CitesIn}
use Rattle.sets.proofs.TurnLaws.{turn_has}
use Rattle.worlds.proofs.CiteLaws.{minus_le, filled, cites-none, cites-add, Unmet, unmet_next, unmet_none}
use Rattle.worlds.proofs.cite.cite_at.Goals as goal
use Rattle.worlds.proofs.cite.cite_at.Goals.{else-b-ne0, then-b-ne0}

pub loop-m-init : goal.loop-m-init
loop-m-init c = (c.ranges.persons.fits, c.told-cited, record { at = λ live fits B p l. refl })

pub loop-m-smaller : goal.loop-m-smaller
loop-m-smaller c = subst (λ (x : ℕ). x < c.loop-m.m) (sym c.minus-m.ensures) (lt_of_le_of_lt (minus_le _ _) c.others.ensures.1)

pub loop-m-preserved : goal.loop-m-preserved
unfolding union
loop-m-preserved c = let args = c.args in
    let lies = c.low in
    let bs = args.blocks.now in
    let next = c.if-b-ne0.cited in
    let q = lies.result in
    let added : (CitesIn bs (λ b. only (eqb b (entry bs q)) args.what) c.loop-m.cited next) × (length next ≡ 64) =
    (elim c.if-b-ne0.branch [
      | then-b-ne0 w ↦ (
        subst (CitesIn bs (λ b. only (eqb b (entry bs q)) args.what) c.loop-m.cited) (sym w.cited-is)
            (cites-add bs c.loop-m.cited q w.low-then-b-ne0.result _ args.what (λ b. eqb b (entry bs q)) c.loop-m.invariant.1 w.low-then-b-ne0.ensures refl w.if-b-ne0.true
            (λ live B here. eq-eqb (entry bs q) (entry bs q) refl) (λ live B p here h. sym (eqb-true (entry bs p) (entry bs q) h))),
        ap length w.cited-is ∙ simp length-set c.loop-m.invariant.1,
      )
      | else-b-ne0 w ↦ (
        subst (CitesIn bs (λ b. only (eqb b (entry bs q)) args.what) c.loop-m.cited) (sym w.cited-is)
            (cites-none bs (λ b. only (eqb b (entry bs q)) args.what) c.loop-m.cited (λ live fits B p here.
            ap (λ (x : Bool). only x args.what) (ne_eqb (entry bs p) (entry bs q) (λ e. filled bs live fits B p here (e ∙ w.if-b-ne0.false))))),
        ap length w.cited-is ∙ c.loop-m.invariant.1,
      )
    ]) in
    let r = c.others.result in (
      subst (λ (x : ℕ). x < 2 ^ 64) (sym c.minus-m.ensures) (lt_of_le_of_lt (minus_le r (entry bs q)) (lt_trans c.others.ensures.1 c.loop-m.invariant.0)),
      added.1,
      subst (Unmet bs args.what args.persons args.cited.now next) (sym c.minus-m.ensures)
          (unmet_next next r q c.loop-m.invariant.2 (turn_has _ _ _ c.loop-m.invariant.0 lies.ensures c.others.ensures) added.0),
    )

pub returns : goal.returns
returns c = unmet_none c.loop-m-test.false c.loop-m.invariant.2
