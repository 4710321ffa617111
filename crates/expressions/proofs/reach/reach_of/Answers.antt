-- `reach::reach_of`: the parts, by what each ensures.
use Prim.Native.Nat.{ℕ}
use mathlib.Core.Path.{◌≡◌, sym, ap, ap₂, ◌∙◌, fun_ext}
use mathlib.Core.List.{List}
use native.Mathlib.Omega.{arith}
use lib.ListN.{length-take}
use Rattle.sets.specs.paper.Sets.{union, union_of}
use Rattle.records.specs.code.Decoded.{plan_of, fact_of}
use Rattle.expressions.proofs.ListLaws.{made-length}
use Rattle.expressions.specs.paper.Nodes.{node_uses}
use Rattle.expressions.specs.paper.Influence.{uses_at, constraint_uses, bound_facts, open_decisions, decision_touches}
use Rattle.expressions.specs.code.Coded.{frame_by}
use Rattle.expressions.specs.code.Listed.{used_at, rule_uses}
use Rattle.expressions.proofs.FitLaws.{facts-fit}
use Rattle.expressions.proofs.OpenLaws.{opens-number, open_few}
use Rattle.expressions.proofs.TouchLaws.{bound-list, touches_from}
use Rattle.expressions.proofs.reach.reach_of.Goals as goal

pub touches-facts-requires : goal.touches-facts-requires
unfolding plan_of
touches-facts-requires c =
    let rules = c.all_rules-rules in
    (facts-fit (plan_of c.args.plan) c.requires.0, omega (arith, length-take rules.result rules.new.uses, length-take rules.result rules.new.persons, rules.ensures.room.0, rules.ensures.room.1))

pub returns : goal.returns
unfolding plan_of node_uses frame_by constraint_uses decision_touches
returns c =
    let P = plan_of c.args.plan in
    let F = frame_by c.args.plan c.args.roster c.args.constraints in
    let same : used_at c.args.nodes.now ≡ uses_at P = fun_ext (λ i. c.requires.1.at i) in
    let rules = c.all_rules-rules in
    let us = rules.ensures.uses ∙ ap (λ (at : ℕ → ℕ). rule_uses at P) same in
    let used : c.constraint_uses-used.result ≡ constraint_uses F = c.constraint_uses-used.ensures ∙ ap (λ (at : ℕ → ℕ). union_of at F.constraints) same in
    let bound : c.bound_facts-bound.result ≡ bound_facts F =
    c.bound_facts-bound.ensures ∙ ap₂ (λ (x : ℕ) (l : List ℕ). union x (union_of (λ (u : ℕ). u) l)) used us ∙ sym (bound-list F) in
    let opens = c.open_decisions-undecided in
    let fs = c.args.plan.facts in
    record {
      groups = c.groups_of-groups.ensures ∙ c.joining-joined.ensures.persons;
      bound = bound;
      count = sym (made-length fact_of fs.items fs.count 64 _ (omega (arith, c.well_formed)) c.min.ensures);
      few = omega (arith, c.min.ensures);
      facts = touches_from F _ _ _ _ _ us rules.ensures.persons used bound c.touches-facts.ensures;
      opens = opens.ensures;
      sixteen = omega (arith, opens-number opens.result (open_decisions P) opens.ensures, open_few P, c.requires.0.decision_limit);
      decisions = c.decision_touches-decisions.ensures;
    }
