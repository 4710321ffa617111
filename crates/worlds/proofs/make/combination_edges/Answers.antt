-- `make::combination_edges`: of the numbers of edges those that pass the test.
use mathlib.Core.Path.{◌≡◌, sym, ap, ◌∙◌}
use mathlib.Core.Bool.{Bool, ◌&&◌}
use Prim.Native.Nat.{◌<◌}
use native.Mathlib.Omega.{arith}
use borrow.Author.Rules.{rules}
use borrow.Author.Tests.{ltb-true}
use lib.Dec.{ltb}
use lib.ListN.{get_or}
use Rattle.sets.specs.paper.Sets.{has}
use Rattle.records.specs.paper.Plan.{Edge}
use Rattle.records.specs.declared.plan.Edge.{Edge as Coded}
use Rattle.records.specs.code.Decoded.{edge_of}
use Rattle.expressions.specs.paper.Rules.{edge}
use Rattle.worlds.proofs.OverLaws.{tested-has}
use Rattle.worlds.proofs.PlanAt.{edge-count, edge_at}
use Rattle.worlds.proofs.make.combination_edges.Goals as goal

pub returns : goal.returns
unfolding edge_of
returns c = record {
  at = λ P e i.
      let below = c.numbers_below.ensures (omega (arith, c.min.ensures)) in
      tested-has (λ j. (edge P j).combination) c.numbers_below.result c.those.result c.those.ensures.outside
      (λ j h.
      let k : j < c.min.result = ltb-true j c.min.result (sym (below j) ∙ h) in
      let is = λ (d : Coded) (q : has c.those.result j ≡ (get_or c.args.edges.items j d).combination).
      q ∙ sym (ap (λ (x : Edge). x.combination) (edge_at c.args.edges c.min.result (omega (arith, c.well_formed)) c.min.ensures P e j d k)) in
      let t = c.those.ensures.inside j h in search (rules, is)) i
      ∙ ap (λ (b : Bool). b && (edge P i).combination) (below i ∙ ap (ltb i) (sym (edge-count c.args.edges c.min.result (omega (arith, c.well_formed)) c.min.ensures P e)));
}
