use mathlib.Core.Path.{◌≡◌, refl, sym, ap, ◌∙◌}
use native.Mathlib.Omega.{arith}
use Rattle.sets.specs.paper.Sets.{one, any_of}
use Rattle.records.specs.paper.Plan.{Plan, Status}
use Rattle.records.specs.code.Decoded.{status_of, statuses_of}
use Rattle.expressions.specs.paper.Rules.{status_count}
use Rattle.expressions.proofs.ListLaws.{made_each}
use Rattle.worlds.specs.code.Laid.{StatusFits}
use Rattle.worlds.proofs.LayLaws.{filled_next, filled_other, filled_row, same_next}
use Rattle.worlds.proofs.PlanAt.{status-count, status_at}
use Rattle.worlds.proofs.lay.lay_statuses.Goals as goal

pub person_mask-requires : goal.person_mask-requires
unfolding status_of
person_mask-requires c =
    (made_each status_of c.args.statuses.items c.args.statuses.count 32 _ (omega (arith, c.well_formed)) c.min-n.ensures StatusFits c.loop-i.i _ (omega arith) c.requires).0

pub bit-requires : goal.bit-requires
unfolding status_of
bit-requires c =
    (made_each status_of c.args.statuses.items c.args.statuses.count 32 _ (omega (arith, c.well_formed)) c.min-n.ensures StatusFits c.loop-i.i _ (omega arith) c.requires).1

pub loop-i-preserved : goal.loop-i-preserved
unfolding status_of any_of
loop-i-preserved c =
    let v = c.loop-i.invariant in
    let first = c.lay.ensures in
    let second = c.lay-in-loop-i.ensures in (
      λ P e.
          let here = status_at c.args.statuses c.min-n.result (omega (arith, c.well_formed)) c.min-n.ensures P e c.loop-i.i in (
            filled_other second refl (filled_next first (c.person_mask.ensures ∙ sym (ap (λ (x : Status). one x.person) (here _ (omega arith)))) (v.0 P e).0),
            filled_next second (c.bit.ensures ∙ sym (ap (λ (x : Status). one x.citation) (here _ (omega arith)))) (filled_other first refl (v.0 P e).1),
          ),
      same_next _ refl second (same_next _ refl first v.1),
    )

pub returns : goal.returns
returns c =
    let v = c.loop-i.invariant in
    let end : (P : Plan) → P.statuses ≡ statuses_of c.args.statuses → status_count P ≡ c.loop-i.i =
    λ P e. omega (arith, status-count c.args.statuses c.min-n.result (omega (arith, c.well_formed)) c.min-n.ensures P e, c.loop-i-test.false) in record {
      persons = λ P e. filled_row (end P e) (v.0 P e).0;
      cites = λ P e. filled_row (end P e) (v.0 P e).1;
      same = v.1;
    }
