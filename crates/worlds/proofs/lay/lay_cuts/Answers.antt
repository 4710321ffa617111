use mathlib.Core.Path.{◌≡◌, refl, sym, ap, ◌∙◌}
use native.Mathlib.Omega.{arith}
use Rattle.sets.specs.paper.Sets.{one, any_of}
use Rattle.records.specs.paper.Plan.{Plan, Cut}
use Rattle.records.specs.code.Decoded.{cut_of, cuts_of}
use Rattle.expressions.specs.paper.Influence.{has_verdict}
use Rattle.expressions.specs.paper.Rules.{cut_count}
use Rattle.expressions.proofs.ListLaws.{made_each}
use Rattle.worlds.specs.code.Laid.{CutFits}
use Rattle.worlds.proofs.LayLaws.{filled_next, filled_other, filled_row, same_next}
use Rattle.worlds.proofs.PlanAt.{cut-count, cut_at}
use Rattle.worlds.proofs.lay.lay_cuts.Goals as goal

pub bit-requires : goal.bit-requires
unfolding cut_of
bit-requires c =
    (made_each cut_of c.args.cuts.items c.args.cuts.count 16 _ (omega (arith, c.well_formed)) c.min-n.ensures CutFits c.loop-i.i _ (omega arith) c.requires).0

pub said_blocked-requires : goal.said_blocked-requires
unfolding cut_of
said_blocked-requires c =
    (made_each cut_of c.args.cuts.items c.args.cuts.count 16 _ (omega (arith, c.well_formed)) c.min-n.ensures CutFits c.loop-i.i _ (omega arith) c.requires).1

pub loop-i-preserved : goal.loop-i-preserved
unfolding cut_of any_of
loop-i-preserved c =
    let v = c.loop-i.invariant in
    let first = c.lay.ensures in
    let second = c.lay-in-loop-i.ensures in
    let third = c.lay-in-loop-i-2.ensures in (
      λ P e.
          let here = cut_at c.args.cuts c.min-n.result (omega (arith, c.well_formed)) c.min-n.ensures P e c.loop-i.i in (
            filled_other third refl (filled_other second refl (filled_next first (sym (ap (λ (x : Cut). x.members) (here _ (omega arith)))) (v.0 P e).0)),
            filled_other third refl (filled_next second (c.bit.ensures ∙ sym (ap (λ (x : Cut). one x.citation) (here _ (omega arith)))) (filled_other first refl (v.0 P e).1)),
            filled_next third (λ n. c.said_blocked.ensures n ∙ sym (ap (λ (x : Cut). has_verdict n 1 x.decisions) (here _ (omega arith))))
                (filled_other second refl (filled_other first refl (v.0 P e).2)),
          ),
      same_next _ refl third (same_next _ refl second (same_next _ refl first v.1)),
    )

pub returns : goal.returns
returns c =
    let v = c.loop-i.invariant in
    let end : (P : Plan) → P.cuts ≡ cuts_of c.args.cuts → cut_count P ≡ c.loop-i.i =
    λ P e. omega (arith, cut-count c.args.cuts c.min-n.result (omega (arith, c.well_formed)) c.min-n.ensures P e, c.loop-i-test.false) in record {
      members = λ P e. filled_row (end P e) (v.0 P e).0;
      cites = λ P e. filled_row (end P e) (v.0 P e).1;
      said = λ P e n m h. (v.0 P e).2.at n (let z = end P e in omega arith) m;
      same = v.1;
    }
