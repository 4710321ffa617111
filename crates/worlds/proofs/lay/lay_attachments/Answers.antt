use mathlib.Core.Path.{◌≡◌, refl, sym, ap, ◌∙◌}
use native.Mathlib.Omega.{arith}
use Rattle.sets.specs.paper.Sets.{one, any_of}
use Rattle.records.specs.paper.Plan.{Plan, Attachment}
use Rattle.records.specs.code.Decoded.{attachment_of, attachments_of}
use Rattle.expressions.specs.paper.Rules.{attachment_count}
use Rattle.expressions.proofs.ListLaws.{made_each}
use Rattle.worlds.specs.code.Laid.{AttachmentFits}
use Rattle.worlds.proofs.LayLaws.{filled_next, filled_other, filled_row, same_next}
use Rattle.worlds.proofs.PlanAt.{attachment-count, attachment_at}
use Rattle.worlds.proofs.lay.lay_attachments.Goals as goal

pub person_mask-requires : goal.person_mask-requires
unfolding attachment_of
person_mask-requires c =
    (made_each attachment_of c.args.attachments.items c.args.attachments.count 32 _ (omega (arith, c.well_formed)) c.min-n.ensures AttachmentFits c.loop-i.i _ (omega arith) c.requires).0

pub bit-requires : goal.bit-requires
unfolding attachment_of
bit-requires c =
    (made_each attachment_of c.args.attachments.items c.args.attachments.count 32 _ (omega (arith, c.well_formed)) c.min-n.ensures AttachmentFits c.loop-i.i _ (omega arith) c.requires).1

pub loop-i-preserved : goal.loop-i-preserved
unfolding attachment_of any_of
loop-i-preserved c =
    let v = c.loop-i.invariant in
    let first = c.lay.ensures in
    let second = c.lay-in-loop-i.ensures in
    let third = c.lay-in-loop-i-2.ensures in (
      λ P e.
          let here = attachment_at c.args.attachments c.min-n.result (omega (arith, c.well_formed)) c.min-n.ensures P e c.loop-i.i in (
            filled_other third refl (filled_other second refl (filled_next first (sym (ap (λ (x : Attachment). x.members) (here _ (omega arith)))) (v.0 P e).0)),
            filled_other third refl (filled_next second (c.person_mask.ensures ∙ sym (ap (λ (x : Attachment). one x.anchor) (here _ (omega arith)))) (filled_other first refl (v.0 P e).1)),
            filled_next third (c.bit.ensures ∙ sym (ap (λ (x : Attachment). one x.citation) (here _ (omega arith)))) (filled_other second refl (filled_other first refl (v.0 P e).2)),
          ),
      same_next _ refl third (same_next _ refl second (same_next _ refl first v.1)),
    )

pub returns : goal.returns
returns c =
    let v = c.loop-i.invariant in
    let end : (P : Plan) → P.attachments ≡ attachments_of c.args.attachments → attachment_count P ≡ c.loop-i.i =
    λ P e. omega (arith, attachment-count c.args.attachments c.min-n.result (omega (arith, c.well_formed)) c.min-n.ensures P e, c.loop-i-test.false) in record {
      movers = λ P e. filled_row (end P e) (v.0 P e).0;
      anchors = λ P e. filled_row (end P e) (v.0 P e).1;
      cites = λ P e. filled_row (end P e) (v.0 P e).2;
      same = v.1;
    }
