use mathlib.Core.Path.{◌≡◌, refl, sym, ap, ◌∙◌}
use native.Mathlib.Omega.{arith}
use Rattle.sets.specs.paper.Sets.{one, any_of}
use Rattle.records.specs.paper.Plan.{Plan, Edge}
use Rattle.records.specs.code.Decoded.{edge_of, edges_of}
use Rattle.expressions.specs.paper.Rules.{edge_count, pair, ends_of}
use Rattle.expressions.proofs.ListLaws.{made_each}
use Rattle.worlds.specs.code.Laid.{EdgeFits}
use Rattle.worlds.proofs.LayLaws.{filled_next, filled_other, filled_row, same_next}
use Rattle.worlds.proofs.PlanAt.{edge-count, edge_at}
use Rattle.worlds.proofs.lay.lay_edges.Goals as goal

pub bit-requires : goal.bit-requires
unfolding edge_of
bit-requires c =
    (made_each edge_of c.args.edges.items c.args.edges.count 64 _ (omega (arith, c.well_formed)) c.min-n.ensures EdgeFits c.loop-i.i _ (omega arith) c.requires).2

pub ends-requires : goal.ends-requires
unfolding edge_of
ends-requires c =
    let h = made_each edge_of c.args.edges.items c.args.edges.count 64 _ (omega (arith, c.well_formed)) c.min-n.ensures EdgeFits c.loop-i.i _ (omega arith) c.requires in (h.0, h.1)

pub loop-i-preserved : goal.loop-i-preserved
unfolding edge_of any_of pair
loop-i-preserved c =
    let v = c.loop-i.invariant in
    let first = c.lay.ensures in
    let second = c.lay-in-loop-i.ensures in (
      λ P e.
          let here = edge_at c.args.edges c.min-n.result (omega (arith, c.well_formed)) c.min-n.ensures P e c.loop-i.i in (
            filled_other second refl (filled_next first (c.ends.ensures ∙ sym (ap ends_of (here _ (omega arith)))) (v.0 P e).0),
            filled_next second (c.bit.ensures ∙ sym (ap (λ (x : Edge). one x.citation) (here _ (omega arith)))) (filled_other first refl (v.0 P e).1),
          ),
      same_next _ refl second (same_next _ refl first v.1),
    )

pub returns : goal.returns
returns c =
    let v = c.loop-i.invariant in
    let end : (P : Plan) → P.edges ≡ edges_of c.args.edges → edge_count P ≡ c.loop-i.i =
    λ P e. omega (arith, edge-count c.args.edges c.min-n.result (omega (arith, c.well_formed)) c.min-n.ensures P e, c.loop-i-test.false) in record {
      pairs = λ P e. filled_row (end P e) (v.0 P e).0;
      cites = λ P e. filled_row (end P e) (v.0 P e).1;
      same = v.1;
    }
