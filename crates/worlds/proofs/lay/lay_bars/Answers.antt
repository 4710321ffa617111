use mathlib.Core.Path.{◌≡◌, refl, sym, ap, ◌∙◌}
use native.Mathlib.Omega.{arith}
use Rattle.sets.specs.paper.Sets.{one, any_of}
use Rattle.records.specs.paper.Plan.{Plan, Bar}
use Rattle.records.specs.code.Decoded.{bar_of, bars_of}
use Rattle.expressions.specs.paper.Rules.{bar_count}
use Rattle.expressions.proofs.ListLaws.{made_each}
use Rattle.worlds.specs.code.Laid.{BarFits}
use Rattle.worlds.proofs.LayLaws.{filled_next, filled_other, filled_row, same_next}
use Rattle.worlds.proofs.PlanAt.{bar-count, bar_at}
use Rattle.worlds.proofs.lay.lay_bars.Goals as goal

pub bit-requires : goal.bit-requires
unfolding bar_of
bit-requires c =
    made_each bar_of c.args.bars.items c.args.bars.count 32 _ (omega (arith, c.well_formed)) c.min-n.ensures BarFits c.loop-i.i _ (omega arith) c.requires

pub loop-i-preserved : goal.loop-i-preserved
unfolding bar_of any_of
loop-i-preserved c =
    let v = c.loop-i.invariant in
    let first = c.lay.ensures in
    let second = c.lay-in-loop-i.ensures in (
      λ P e.
          let here = bar_at c.args.bars c.min-n.result (omega (arith, c.well_formed)) c.min-n.ensures P e c.loop-i.i in (
            filled_other second refl (filled_next first (sym (ap (λ (x : Bar). x.members) (here _ (omega arith)))) (v.0 P e).0),
            filled_next second (c.bit.ensures ∙ sym (ap (λ (x : Bar). one x.citation) (here _ (omega arith)))) (filled_other first refl (v.0 P e).1),
          ),
      same_next _ refl second (same_next _ refl first v.1),
    )

pub returns : goal.returns
returns c =
    let v = c.loop-i.invariant in
    let end : (P : Plan) → P.bars ≡ bars_of c.args.bars → bar_count P ≡ c.loop-i.i =
    λ P e. omega (arith, bar-count c.args.bars c.min-n.result (omega (arith, c.well_formed)) c.min-n.ensures P e, c.loop-i-test.false) in record {
      members = λ P e. filled_row (end P e) (v.0 P e).0;
      cites = λ P e. filled_row (end P e) (v.0 P e).1;
      same = v.1;
    }
