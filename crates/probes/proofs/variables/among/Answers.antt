use mathlib.Core.Path.{◌≡◌, refl, sym, ap, ◌∙◌}
use mathlib.Core.Bool.{true, false}
use mathlib.Core.List.{List, [], ◌∷◌, ◌++◌, map, flat_map, append-nil}
use Prim.Native.Nat.{ℕ, ◌+◌}
use native.Mathlib.Omega.{arith}
use lib.ListN.{length, take, length-append}
use lib.Seq.{take_all}
use Rattle.records.proofs.UsedLaws.{used_take}
use Rattle.expressions.specs.code.Codes.{bound_of}
use Rattle.expressions.specs.code.Slots.{slot_of, slots_of}
use Rattle.probes.specs.Entries.{varying, variable_codes}
use Rattle.probes.specs.Binds.{codes_of}
use Rattle.probes.proofs.VariableLaws.{codes-next}
use Rattle.probes.proofs.variables.among.Goals as goal
use Rattle.probes.proofs.variables.among.Goals.{else-varies, then-varies}

pub loop-item-init : goal.loop-item-init
unfolding codes_of variable_codes varying flat_map
loop-item-init c = (omega arith, refl, refl)

pub loop-item-preserved : goal.loop-item-preserved
loop-item-preserved c =
    let l = c.loop-item in
    let bs = map bound_of c.args.codes in
    let items = take c.min.result c.args.order.items in
    let found = sym c.varies.ensures in
    (elim c.if-varies.branch [
      | then-varies w ↦ (
        rw w.out-is (omega (arith, w.add-out.ensures.0, l.invariant.0)),
        rw (w.out-is, w.add-out.ensures.1, w.add-out.ensures.0, length-append (codes_of l.out) (w.coded.result ∷ [])) (ap (λ (n : ℕ). n + 1) l.invariant.1),
        rw (w.out-is, w.add-out.ensures.1, codes-next bs items l.item-index true c.loop-item-test.true (found ∙ w.if-varies.true), l.invariant.2, w.coded.ensures),
      )
      | else-varies w ↦ (
        rw w.out-is (omega (arith, l.invariant.0)),
        rw w.out-is l.invariant.1,
        rw (w.out-is, codes-next bs items l.item-index false c.loop-item-test.true (found ∙ w.if-varies.false), append-nil (variable_codes bs (map slot_of (take l.item-index items)))) l.invariant.2,
      )
    ])

pub returns : goal.returns
unfolding slots_of
returns c =
    let o = c.args.order in
    let bs = map bound_of c.args.codes in
    let all = take_all c.loop-item.item-index (take c.min.result o.items) c.loop-item-test.false ∙ used_take o.items o.count 80 c.min.result (omega (arith, c.well_formed)) c.min.ensures in
    (c.loop-item.invariant.1, c.loop-item.invariant.2 ∙ ap (λ (xs : List ℕ). variable_codes bs (map slot_of xs)) all)
