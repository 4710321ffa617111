-- `bind::bound_over`: what the crate below gives of plan and case, part by part.
use mathlib.Core.Path.{◌≡◌, ◌∙◌, subst}
use Prim.Native.Nat.{ℕ}
use lib.ListN.{get_or}
use Rattle.records.specs.code.Decoded.{plan_of, case_of}
use Rattle.expressions.specs.paper.Bindings.{bindings, binding_at}
use Rattle.expressions.specs.code.Codes.{bound_of}
use Rattle.expressions.specs.declared.variables.Count.{Count}
use Rattle.expressions.proofs.FitLaws.{nodes-fit}
use Rattle.probes.specs.Entries.{refusal_by}
use Rattle.probes.specs.Binds.{TellsVerdict}
use Rattle.probes.proofs.Entering.{bound_code, booleans-fit, in_order, listed-sets, worlds-counted}
use Rattle.probes.proofs.bind.bound_over.Goals as goal

pub node_uses-uses-requires : goal.node_uses-uses-requires
unfolding plan_of
node_uses-uses-requires c = nodes-fit (plan_of c.args.plan) c.requires.0

pub reach_of-reach-requires : goal.reach_of-reach-requires
reach_of-reach-requires c = (c.requires.0, c.node_uses-uses.ensures)

pub variable_order-order-requires : goal.variable_order-order-requires
variable_order-order-requires c =
    let r = c.reach_of-reach in (
      booleans-fit c.args.plan c.args.case c.requires.0 c.requires.1 r.result r.ensures c.boolean_count.result c.boolean_count.ensures.0,
      r.ensures.few,
      r.ensures.sixteen,
    )

pub returns : goal.returns
returns c =
    let r = c.reach_of-reach in
    let coded : (f : ℕ) → bound_of (get_or c.bindings-codes.result f 0) ≡ binding_at (bindings (plan_of c.args.plan) (case_of c.args.case)) f =
    (λ f. c.bindings-codes.ensures f ∙ bound_code c.args.plan c.args.case c.requires.0 c.requires.1 r.result r.ensures f) in
    let count = worlds-counted c.args.plan c.args.case c.requires.0 c.requires.1 r.result r.ensures c.bindings-codes.result coded c.count_worlds-count.result c.count_worlds-count.ensures in
    record {
      codes = coded;
      influence = c.influence_sets-influence.ensures
          ∙ listed-sets c.args.plan c.args.case c.requires.0 c.requires.1 r.result r.ensures c.bindings-codes.result coded c.variables_of.result c.variables_of.ensures;
      order = c.variable_order-order.ensures
          ∙ in_order c.args.plan c.args.case c.requires.0 c.requires.1 r.result r.ensures c.boolean_count.result c.boolean_count.ensures.0;
      count = count;
      refusal = subst (λ (k : Count). TellsVerdict (refusal_by (case_of c.args.case) k.refused) c.refusal_of-refusal.result) count c.refusal_of-refusal.ensures;
    }
