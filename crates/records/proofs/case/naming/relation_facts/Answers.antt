use mathlib.Core.Path.{◌≡◌, refl, sym, ap, ap₂, ◌∙◌}
use mathlib.Core.Bool.{true, false, not, ◌&&◌}
use mathlib.Core.List.{List, []}
use Prim.Native.Nat.{ℕ, ◌<◌}
use native.Mathlib.Nat.{min-le_right}
use native.Mathlib.Omega.{arith}
use lib.Dec.{ltb}
use lib.ListN.{length, get_or}
use borrow.Author.Tests.{not-true, not-false}
use Rattle.sets.specs.paper.Sets.{has, union, union_below}
use Rattle.records.specs.paper.Plan as paper
use Rattle.records.specs.paper.Case as case
use Rattle.records.specs.code.Decoded.{fact_of, facts_of, families_of}
use Rattle.records.specs.declared.plan.Fact.{Fact}
use Rattle.records.proofs.ListLaws.{length_front}
use Rattle.records.proofs.CaseFaults.{related, boolean_unrelated, family_related}
use Rattle.sets.proofs.MaskLaws.{built, built_in, built_out, built_has}
use Rattle.records.proofs.MarkLaws.{lets, lets_fact}
use mathlib.Core.Logic.{⊎_elim}
use Rattle.records.proofs.case.naming.relation_facts.Goals as goal

pub loop-k-init : goal.loop-k-init
unfolding union_below
loop-k-init c =
    let a = c.args in
    let x = a.facts in
    let long : length x.items ≡ 64 = omega (arith, c.well_formed) in
    (omega arith, omega (arith, c.min-count.ensures, min-le_right x.count 64), c.min-count.ensures ∙ sym (length_front fact_of x.items x.count 64 long), refl)

pub loop-k-preserved : goal.loop-k-preserved
loop-k-preserved c =
    let s = c in
    let a = s.args in
    let l = s.loop-k in
    let x = a.facts in
    let ms = families_of a.families in
    let d : Fact = record { boolean = false; family = 0; count = 0; tuple = [] } in
    let y = get_or x.items l.k d in
    let u : l.k < length (facts_of x) = omega (arith, l.invariant.2, c.loop-k-test.true) in
    let at = lets_fact (related ms) x l.k d u in (
      omega arith,
      l.invariant.1,
      l.invariant.2,
      ⊎_elim
          (λ w. let no-flag : not y.boolean ≡ true = cc in
          built_in (lets (related ms) x) l.k l.invariant.3 (w.m-is ∙ w.union-m.ensures ∙ ap (union l.m) w.bit.ensures)
          (at ∙ family_related ms y (not-true y.boolean no-flag) ∙ (cc)))
          (λ w. built_out (lets (related ms) x) l.k l.invariant.3 w.m-is
          (⊎_elim
          (λ v. at ∙ family_related ms y (not-true y.boolean v.if-not-fact.true) ∙ sym v.has_family.ensures ∙ v.if-has_family.false)
          (λ v. at ∙ boolean_unrelated ms y (not-false y.boolean v.if-not-fact.false))
          w.else-not-fact.branch-raw))
          c.if-not-fact.branch-raw,
    )

pub returns : goal.returns
unfolding paper.get_fact case.relation_sound
returns c = λ P C e h y.
    let l = c.loop-k in
    let a = c.args in
    let x = a.facts in
    let f = y.fact in
    let z : l.k ≡ length (facts_of x) = omega (arith, l.invariant.2, c.loop-k-test.false) in
    ap (λ (m : ℕ). has m f) (l.invariant.3 ∙ ap (built (lets (related (families_of a.families)) x)) z) ∙ built_has (lets (related (families_of a.families)) x) (length (facts_of x)) f ∙ ap₂ (λ (ys : List paper.Fact) (ms : List case.Family). ltb f (length ys) && related ms (get_or ys f (record { family = []; tuple = [] }))) e h
