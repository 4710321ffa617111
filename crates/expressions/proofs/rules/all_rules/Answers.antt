-- `rules::all_rules`: statuses behind the rules that a closing goes by.
use Prim.Native.Nat.{ℕ}
use mathlib.Core.Path.{ap, ◌∙◌}
use mathlib.Core.List.{List, ◌++◌, map}
use native.Mathlib.Omega.{arith}
use borrow.Author.Rules.{rules}
use Rattle.records.specs.code.Decoded.{plan_of, status_of}
use Rattle.expressions.specs.code.Coded.{PersonFits}
use Rattle.expressions.specs.code.Listed.{used_at, rule_uses, persons_by_rule, status_used, held_by_status}
use Rattle.expressions.proofs.FitLaws.{statuses-fit}
use Rattle.expressions.proofs.RuleLaws.{each_in_use, ruled_in_use}
use Rattle.expressions.proofs.rules.all_rules.Goals as goal

pub add-requires-clause-room : goal.add-requires-clause-room
add-requires-clause-room c = omega (arith, c.requires.1.few)

pub add-requires-clause-each : goal.add-requires-clause-each
unfolding plan_of status_of
add-requires-clause-each c =
    let ss = c.args.plan.statuses in
    each_in_use status_of ss.items ss.count 32 _ (omega (arith, c.well_formed)) c.min.ensures PersonFits (statuses-fit (plan_of c.args.plan) c.requires.0) (λ s h. search rules)

pub returns : goal.returns
unfolding plan_of rule_uses persons_by_rule status_of
returns c =
    let ss = c.args.plan.statuses in
    let at : ℕ → ℕ = used_at c.args.nodes.now in
    let added = ruled_in_use status_of ss.items ss.count 32 _ (omega (arith, c.well_formed)) c.min.ensures PersonFits (statuses-fit (plan_of c.args.plan) c.requires.0)
    (status_used at) held_by_status c.add.ensures.added (λ s h r told. search rules) in
    let xs = (plan_of c.args.plan).statuses in
    record {
      uses = added.uses ∙ ap (λ (l : List ℕ). l ++ map (status_used at) xs) c.requires.1.uses;
      persons = added.persons ∙ ap (λ (l : List ℕ). l ++ map held_by_status xs) c.requires.1.persons;
      few = omega (arith, c.requires.1.few, c.add.ensures.count);
      room = search rules;
    }
