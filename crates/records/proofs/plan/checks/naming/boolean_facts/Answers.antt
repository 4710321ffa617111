use mathlib.Core.Path.{◌≡◌, refl, sym, ap, ◌∙◌}
use mathlib.Core.Bool.{false, ◌&&◌}
use mathlib.Core.List.{List, []}
use Prim.Native.Nat.{ℕ, ◌<◌}
use native.Mathlib.Nat.{min-le_right}
use native.Mathlib.Omega.{arith}
use lib.Dec.{ltb}
use lib.ListN.{length, get_or}
use Rattle.sets.specs.paper.Sets.{has, union, union_below}
use Rattle.records.specs.paper.Plan as paper
use Rattle.records.specs.code.Decoded.{fact_of, facts_of}
use Rattle.records.specs.declared.plan.Fact.{Fact}
use Rattle.records.proofs.ListLaws.{length_front}
use Rattle.records.proofs.NamingLaws.{boolean_of_lem}
use Rattle.sets.proofs.MaskLaws.{built, built_in, built_out, built_has}
use Rattle.records.proofs.MarkLaws.{lets, lets_fact}
use Rattle.records.proofs.plan.checks.naming.boolean_facts.Goals as goal
use Rattle.records.proofs.plan.checks.naming.boolean_facts.Goals.{else-facts-k, then-facts-k}

pub loop-k-init : goal.loop-k-init
unfolding union_below
loop-k-init c =
    let x = c.args.facts in
    let long : length x.items ≡ 64 = omega (arith, c.well_formed) in
    (omega arith, omega (arith, c.min-count.ensures, min-le_right x.count 64), c.min-count.ensures ∙ sym (length_front fact_of x.items x.count 64 long), refl)

pub loop-k-preserved : goal.loop-k-preserved
loop-k-preserved c =
    let s = c in
    let x = s.args.facts in
    let l = s.loop-k in
    let d : Fact = record { boolean = false; family = 0; count = 0; tuple = [] } in
    let u : l.k < length (facts_of x) = omega (arith, l.invariant.2, c.loop-k-test.true) in
    let at = lets_fact paper.is_boolean x l.k d u ∙ boolean_of_lem (get_or x.items l.k d) in
    (omega arith, l.invariant.1, l.invariant.2, (elim c.if-facts-k.branch [ then-facts-k w ↦ built_in (lets paper.is_boolean x) l.k l.invariant.3 (w.m-is ∙ w.union-m.ensures ∙ ap (union l.m) w.bit.ensures) (at ∙ w.if-facts-k.true) | else-facts-k w ↦ built_out (lets paper.is_boolean x) l.k l.invariant.3 w.m-is (at ∙ w.if-facts-k.false) ]))

pub returns : goal.returns
unfolding paper.get_fact
returns c = λ P e f.
    let l = c.loop-k in
    let x = c.args.facts in
    let z : l.k ≡ length (facts_of x) = omega (arith, l.invariant.2, c.loop-k-test.false) in
    ap (λ (m : ℕ). has m f) (l.invariant.3 ∙ ap (built (lets paper.is_boolean x)) z) ∙ built_has (lets paper.is_boolean x) (length (facts_of x)) f ∙ ap (λ (ys : List paper.Fact). ltb f (length ys) && paper.is_boolean (get_or ys f (record { family = []; tuple = [] }))) e
