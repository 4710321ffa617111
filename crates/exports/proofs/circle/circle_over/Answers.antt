-- `circle::circle_over`: the sets that are joined are those of document 01, and the person is closed under them.
use mathlib.Core.Path.{ap, ◌∙◌}
use mathlib.Core.List.{List}
use Prim.Native.Nat.{ℕ}
use Rattle.sets.specs.paper.Sets.{one, close_of}
use Rattle.records.specs.code.Decoded.{plan_of}
use Rattle.expressions.proofs.FitLaws.{nodes-fit}
use Rattle.exports.proofs.CircleLaws.{circle-closed}
use Rattle.exports.proofs.circle.circle_over.Goals as goal

pub node_uses-uses-requires : goal.node_uses-uses-requires
unfolding plan_of
node_uses-uses-requires c = nodes-fit (plan_of c.args.plan) c.requires.0

pub returns : goal.returns
returns c =
    let p = c.args.person in
    c.circle_of.ensures ∙ ap (λ (sets : List ℕ). close_of sets (one p)) c.joins_of-joins.ensures
    ∙ circle-closed c.args.plan c.args.case c.requires.1 c.reach_of-reach.result c.reach_of-reach.ensures p
