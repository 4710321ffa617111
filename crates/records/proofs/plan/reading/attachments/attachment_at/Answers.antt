-- Attachment from its bit map on.
use mathlib.Core.Path.{refl, sym, ap}
use Rattle.records.specs.paper.Fields.{little}
use Rattle.records.specs.paper.Plan as paper
use Rattle.records.specs.code.Decoded.{attachment_of}
use Rattle.records.specs.code.Readers.{field_read, wide_read, election_read, map_read, first}
use Rattle.records.specs.code.Passes.{with_bits}
use Rattle.records.proofs.Reading.{seen, found, none}
use Rattle.records.proofs.Chain.{more, skip, stop, last, unknown, half_of, raw_got, raw_bits, raw_bad}
use Rattle.records.proofs.plan.reading.attachments.attachment_at.Goals as goal

pub returns-in_default : goal.returns-in_default
returns-in_default c = sym (ap (map_read (with_bits paper.attachment_from)) (raw_bits paper.plan_formats 6 c.args.s.now c.args.at (seen field_read c.byte_at.ensures c.in_default.is)))

pub returns-in_default-mask_at : goal.returns-in_default-mask_at
unfolding paper.plan_formats
returns-in_default-mask_at c =
    sym (ap (map_read (with_bits paper.attachment_from)) (raw_bad paper.plan_formats 6 c.args.s.now c.args.at (seen field_read c.byte_at.ensures c.in-Got.is)
    (stop _ _ _ _ refl _ _ (none little _ (seen wide_read c.mask_at.ensures c.in_default-mask_at.is)))))

pub returns-in_default-opt_at : goal.returns-in_default-opt_at
unfolding paper.plan_formats
returns-in_default-opt_at c =
    sym (ap (map_read (with_bits paper.attachment_from)) (raw_bad paper.plan_formats 6 c.args.s.now c.args.at (seen field_read c.byte_at.ensures c.in-Got.is)
    (skip _ _ _ _ refl _ _ (found little _ (seen wide_read c.mask_at.ensures c.in-Got-mask_at.is)).is
    (stop _ _ _ _ (half_of _ 2) _ _ (none first _ (seen field_read c.opt_at.ensures c.in_default-opt_at.is))))))

pub returns-in_default-opt_at-2 : goal.returns-in_default-opt_at-2
unfolding paper.plan_formats
returns-in_default-opt_at-2 c =
    sym (ap (map_read (with_bits paper.attachment_from)) (raw_bad paper.plan_formats 6 c.args.s.now c.args.at (seen field_read c.byte_at.ensures c.in-Got.is)
    (skip _ _ _ _ refl _ _ (found little _ (seen wide_read c.mask_at.ensures c.in-Got-mask_at.is)).is
    (skip _ _ _ _ (half_of _ 2) _ _ (found first _ (seen field_read c.opt_at.ensures c.in-Got-opt_at.is)).is
    (stop _ _ _ _ (half_of _ 4) _ _ (none first _ (seen field_read c.opt_at-2.ensures c.in_default-opt_at-2.is)))))))

pub returns-in_default-opt_at-3 : goal.returns-in_default-opt_at-3
unfolding paper.plan_formats
returns-in_default-opt_at-3 c =
    sym (ap (map_read (with_bits paper.attachment_from)) (raw_bad paper.plan_formats 6 c.args.s.now c.args.at (seen field_read c.byte_at.ensures c.in-Got.is)
    (skip _ _ _ _ refl _ _ (found little _ (seen wide_read c.mask_at.ensures c.in-Got-mask_at.is)).is
    (skip _ _ _ _ (half_of _ 2) _ _ (found first _ (seen field_read c.opt_at.ensures c.in-Got-opt_at.is)).is
    (skip _ _ _ _ (half_of _ 4) _ _ (found first _ (seen field_read c.opt_at-2.ensures c.in-Got-opt_at-2.is)).is
    (stop _ _ _ _ (half_of _ 8) _ _ (none first _ (seen field_read c.opt_at-3.ensures c.in_default-opt_at-3.is))))))))

pub returns-in_default-opt_at-4 : goal.returns-in_default-opt_at-4
unfolding paper.plan_formats
returns-in_default-opt_at-4 c =
    sym (ap (map_read (with_bits paper.attachment_from)) (raw_bad paper.plan_formats 6 c.args.s.now c.args.at (seen field_read c.byte_at.ensures c.in-Got.is)
    (skip _ _ _ _ refl _ _ (found little _ (seen wide_read c.mask_at.ensures c.in-Got-mask_at.is)).is
    (skip _ _ _ _ (half_of _ 2) _ _ (found first _ (seen field_read c.opt_at.ensures c.in-Got-opt_at.is)).is
    (skip _ _ _ _ (half_of _ 4) _ _ (found first _ (seen field_read c.opt_at-2.ensures c.in-Got-opt_at-2.is)).is
    (skip _ _ _ _ (half_of _ 8) _ _ (found first _ (seen field_read c.opt_at-3.ensures c.in-Got-opt_at-3.is)).is
    (stop _ _ _ _ (half_of _ 16) _ _ (none first _ (seen field_read c.opt_at-4.ensures c.in_default-opt_at-4.is)))))))))

pub returns-in_default-election_at : goal.returns-in_default-election_at
unfolding paper.plan_formats
returns-in_default-election_at c =
    sym (ap (map_read (with_bits paper.attachment_from)) (raw_bad paper.plan_formats 6 c.args.s.now c.args.at (seen field_read c.byte_at.ensures c.in-Got.is)
    (skip _ _ _ _ refl _ _ (found little _ (seen wide_read c.mask_at.ensures c.in-Got-mask_at.is)).is
    (skip _ _ _ _ (half_of _ 2) _ _ (found first _ (seen field_read c.opt_at.ensures c.in-Got-opt_at.is)).is
    (skip _ _ _ _ (half_of _ 4) _ _ (found first _ (seen field_read c.opt_at-2.ensures c.in-Got-opt_at-2.is)).is
    (skip _ _ _ _ (half_of _ 8) _ _ (found first _ (seen field_read c.opt_at-3.ensures c.in-Got-opt_at-3.is)).is
    (skip _ _ _ _ (half_of _ 16) _ _ (found first _ (seen field_read c.opt_at-4.ensures c.in-Got-opt_at-4.is)).is
    (stop _ _ _ _ (half_of _ 32) _ _ (none paper.election_from _ (seen election_read c.election_at.ensures c.in_default-election_at.is))))))))))

pub returns-then-bits-eq0 : goal.returns-then-bits-eq0
unfolding paper.plan_formats attachment_of
returns-then-bits-eq0 c =
    rw (
      raw_got paper.plan_formats 6 c.args.s.now c.args.at (seen field_read c.byte_at.ensures c.in-Got.is)
          (more _ _ _ _ refl _ _ (found little _ (seen wide_read c.mask_at.ensures c.in-Got-mask_at.is)).is
          (more _ _ _ _ (half_of _ 2) _ _ (found first _ (seen field_read c.opt_at.ensures c.in-Got-opt_at.is)).is
          (more _ _ _ _ (half_of _ 4) _ _ (found first _ (seen field_read c.opt_at-2.ensures c.in-Got-opt_at-2.is)).is
          (more _ _ _ _ (half_of _ 8) _ _ (found first _ (seen field_read c.opt_at-3.ensures c.in-Got-opt_at-3.is)).is
          (more _ _ _ _ (half_of _ 16) _ _ (found first _ (seen field_read c.opt_at-4.ensures c.in-Got-opt_at-4.is)).is
          (more _ _ _ _ (half_of _ 32) _ _ (found paper.election_from _ (seen election_read c.election_at.ensures c.in-Got-election_at.is)).is
          (last _ _ _ c.if-bits-eq0.true))))))),
      (found little _ (seen wide_read c.mask_at.ensures c.in-Got-mask_at.is)).means,
      (found first _ (seen field_read c.opt_at.ensures c.in-Got-opt_at.is)).means,
      (found first _ (seen field_read c.opt_at-2.ensures c.in-Got-opt_at-2.is)).means,
      (found first _ (seen field_read c.opt_at-3.ensures c.in-Got-opt_at-3.is)).means,
      (found first _ (seen field_read c.opt_at-4.ensures c.in-Got-opt_at-4.is)).means,
      (found paper.election_from _ (seen election_read c.election_at.ensures c.in-Got-election_at.is)).means,
    )

pub returns : goal.returns
unfolding paper.plan_formats
returns c =
    sym (ap (map_read (with_bits paper.attachment_from)) (raw_bad paper.plan_formats 6 c.args.s.now c.args.at (seen field_read c.byte_at.ensures c.in-Got.is)
    (skip _ _ _ _ refl _ _ (found little _ (seen wide_read c.mask_at.ensures c.in-Got-mask_at.is)).is
    (skip _ _ _ _ (half_of _ 2) _ _ (found first _ (seen field_read c.opt_at.ensures c.in-Got-opt_at.is)).is
    (skip _ _ _ _ (half_of _ 4) _ _ (found first _ (seen field_read c.opt_at-2.ensures c.in-Got-opt_at-2.is)).is
    (skip _ _ _ _ (half_of _ 8) _ _ (found first _ (seen field_read c.opt_at-3.ensures c.in-Got-opt_at-3.is)).is
    (skip _ _ _ _ (half_of _ 16) _ _ (found first _ (seen field_read c.opt_at-4.ensures c.in-Got-opt_at-4.is)).is
    (skip _ _ _ _ (half_of _ 32) _ _ (found paper.election_from _ (seen election_read c.election_at.ensures c.in-Got-election_at.is)).is
    (unknown _ _ _ c.if-bits-eq0.false)))))))))
