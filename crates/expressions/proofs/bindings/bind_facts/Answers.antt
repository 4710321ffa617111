use Prim.Native.Nat.{ℕ, ◌<◌}
use mathlib.Core.Path.{◌≡◌, refl, sym, ap, ap₂, ◌∙◌, subst}
use mathlib.Core.Bool.{Bool}
use native.Mathlib.Omega.{arith}
use mathlib.Core.List.{map}
use lib.ListN.{length, get_or, take, length-set}
use borrow.Author.Rules.{rules}
use Rattle.sets.specs.paper.Sets.{has, one, union, only, union_below}
use Rattle.records.specs.code.Decoded.{plan_of, case_of, family_of}
use Rattle.expressions.specs.code.Told.{TellsFact, binding_from, default_from}
use Rattle.sets.proofs.UnionLaws.{joined_if, left_if}
use Rattle.sets.proofs.MaskLaws.{built, built_next}
use Rattle.expressions.proofs.FactLaws.{Filled, filled_none, filled_next}
use Rattle.expressions.proofs.ToldLaws.{no_fact, told_at, code_at, default_at_lem, codes-made, defaults-made}
use Rattle.expressions.proofs.bindings.bind_facts.Goals as goal
use Rattle.expressions.proofs.bindings.bind_facts.Goals.{else-takes_default, then-takes_default}

pub loop-i-init : goal.loop-i-init
unfolding union_below
loop-i-init c = (refl, search rules, filled_none _ 64, refl)

pub loop-i-preserved : goal.loop-i-preserved
loop-i-preserved c =
    let l = c in
    let facts = c.args.plan.facts in
    let families = c.args.case.families in
    let scope = c.scope_of-scope.result in
    let sights = c.sights_of-sights.result in
    let said = c.said_unknown-unknown.result in
    let elected = c.election_policies-elections.result in
    let set = c.args.set in
    let i = l.loop-i.i in
    let code = code_at set facts families scope sights said elected in
    let test = default_at_lem set facts sights said elected in
    let more : i < 64 = omega (arith, c.loop-i-test.true, c.min-n.ensures) in
    let bound = c.contains-bound.ensures in
    let unknown = c.contains.ensures in
    let new = c.binding.ensures ∙ ap₂ (λ (b u : Bool). binding_from b (get_or facts.items i no_fact) (record { seen = (told_at sights said elected i).seen; unknown = u; election = (told_at sights said elected i).election }) (map family_of (take families.count families.items)) scope) bound unknown in
    let took = sym (c.takes_default.ensures ∙ ap₂ (λ (b u : Bool). default_from b (get_or facts.items i no_fact) (record { seen = (told_at sights said elected i).seen; unknown = u; election = (told_at sights said elected i).election })) bound unknown) in
    let step : c.if-takes_default.defaults ≡ union l.loop-i.defaults (only (test i) (one i)) =
    (elim c.if-takes_default.branch [ then-takes_default w ↦ w.defaults-is ∙ w.union-defaults.ensures ∙ ap (union l.loop-i.defaults) w.bit.ensures ∙ joined_if l.loop-i.defaults (one i) (test i) (took ∙ w.if-takes_default.true) | else-takes_default w ↦ w.defaults-is ∙ left_if l.loop-i.defaults (one i) (test i) (took ∙ w.if-takes_default.false) ]) in (
      simp length-set l.loop-i.invariant.0,
      search rules,
      filled_next code l.loop-i.codes i c.binding.result (omega (arith, more, l.loop-i.invariant.0)) new l.loop-i.invariant.2,
      step ∙ ap (λ (x : ℕ). union x (only (test i) (one i))) l.loop-i.invariant.3 ∙ sym (built_next test i),
    )

pub returns : goal.returns
unfolding case_of plan_of
returns c =
    let l = c in
    let s = c in
    let p = s.args.plan in
    let e : l.loop-i.i ≡ c.min-n.result = omega (arith, c.loop-i-test.false, l.loop-i.invariant.1) in
    let long : length p.facts.items ≡ 64 = omega (arith, s.well_formed) in
    let code = code_at s.args.set p.facts s.args.case.families c.scope_of-scope.result c.sights_of-sights.result c.said_unknown-unknown.result c.election_policies-elections.result in
    let test = default_at_lem s.args.set p.facts c.sights_of-sights.result c.said_unknown-unknown.result c.election_policies-elections.result in
    let tells : (f : ℕ) → f < 64 → TellsFact (plan_of p) (case_of s.args.case) f (told_at c.sights_of-sights.result c.said_unknown-unknown.result c.election_policies-elections.result f) = λ f h. record { seen = c.sights_of-sights.ensures f h; unknown = c.said_unknown-unknown.ensures f h; election = (c.election_policies-elections.ensures (plan_of p) refl refl).at f h } in
    record {
      codes = codes-made p s.args.case s.args.set c.min-n.result c.scope_of-scope.result c.said_unknown-unknown.result c.sights_of-sights.result c.election_policies-elections.result long c.min-n.ensures c.scope_of-scope.ensures tells l.loop-i.codes
          (subst (Filled code l.loop-i.codes) e l.loop-i.invariant.2);
      defaults = record {
        at = λ f. ap (λ (m : ℕ). has m f) (l.loop-i.invariant.3 ∙ ap (built test) e)
            ∙ defaults-made p s.args.case s.args.set c.min-n.result c.scope_of-scope.result c.said_unknown-unknown.result c.sights_of-sights.result c.election_policies-elections.result long c.min-n.ensures c.scope_of-scope.ensures tells f;
      };
    }
