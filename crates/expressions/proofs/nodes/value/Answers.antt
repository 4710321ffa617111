-- `nodes::value`: of the children what std says of all and of any.
use mathlib.Core.Path.{◌≡◌, ap, ◌∙◌}
use native.Mathlib.Omega.{arith}
use borrow.Author.Rules.{rules}
use borrow.Author.Tests.{tests}
use lib.ListN.{take}
use Rattle.std.proofs.lemmas.Iterator.{YieldsList-from_slice}
use Rattle.std.proofs.lemmas.Iterator.Search.{any_from_yields_List, all_from_yields_List}
use Rattle.sets.specs.paper.Sets.{all_of, any_of}
use Rattle.records.specs.code.Decoded.{node_of, node_by}
use Rattle.expressions.specs.paper.Nodes.{on, value}
use Rattle.expressions.proofs.ListLaws.{any_listed, all_listed}
use Rattle.expressions.proofs.NodeLaws.{numbers_used}
use Rattle.expressions.proofs.nodes.value.Goals as goal

pub returns-in-2 : goal.returns-in-2
unfolding value node_of node_by
returns-in-2 c =
    let is = c.args.node.children in
    let all : c.all.result ≡ _ = all_from_yields_List (on c.args.lower.now) _ _ c.all.result c.all.ensures.ran (YieldsList-from_slice (take c.min.result is.items) cc) (λ x b q k. search (rules, tests)) in
    rw c.in-2.is (all ∙ all_listed _ _ ∙ ap (all_of (on c.args.lower.now)) (numbers_used is _ _ (omega (arith, c.well_formed)) c.from.ensures c.min.ensures))

pub returns-in-3 : goal.returns-in-3
unfolding value node_of node_by
returns-in-3 c =
    let is = c.args.node.children in
    let any : c.any.result ≡ _ = any_from_yields_List (on c.args.lower.now) _ _ c.any.result c.any.ensures.ran (YieldsList-from_slice (take c.min.result is.items) cc) (λ x b q k. search (rules, tests)) in
    rw c.in-3.is (any ∙ any_listed _ _ ∙ ap (any_of (on c.args.lower.now)) (numbers_used is _ _ (omega (arith, c.well_formed)) c.from.ensures c.min.ensures))
