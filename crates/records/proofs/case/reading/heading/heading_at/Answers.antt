-- The heading from its bit map on.
use mathlib.Core.Path.{refl, sym, ap}
use Prim.Native.Nat.{◌/◌, ◌%◌}
use lib.Dec.{eqb}
use Rattle.records.specs.paper.Fields.{evidence, little}
use Rattle.records.specs.paper.Case.{case_formats, case_heading_from}
use Rattle.records.specs.code.Decoded.{case_heading_of}
use Rattle.records.specs.code.Readers.{field_read, wide_read, short_read, map_read, first}
use Rattle.records.specs.code.Passes.{with_bits}
use Rattle.records.proofs.Reading.{seen, found, none}
use Rattle.records.proofs.Chain.{more, skip, stop, last, unknown, no_field, half_of, raw_got, raw_bits, raw_bad, given_of}
use Rattle.records.proofs.KindLaws.{has-bit}
use Rattle.records.proofs.case.reading.heading.heading_at.Goals as goal

pub returns-in_default : goal.returns-in_default
returns-in_default c = sym (ap (map_read (with_bits case_heading_from)) (raw_bits case_formats 1 c.args.s.now c.args.at (seen field_read c.byte_at.ensures c.in_default.is)))

pub returns-in_default-opt_at : goal.returns-in_default-opt_at
unfolding case_formats
returns-in_default-opt_at c = sym (ap (map_read (with_bits case_heading_from)) (raw_bad case_formats 1 c.args.s.now c.args.at (seen field_read c.byte_at.ensures c.in-Got.is)
    (stop _ _ _ _ refl _ _ (none first _ (seen field_read c.opt_at.ensures c.in_default-opt_at.is)))))

pub returns-in_default-opt_at-2 : goal.returns-in_default-opt_at-2
unfolding case_formats
returns-in_default-opt_at-2 c = sym (ap (map_read (with_bits case_heading_from)) (raw_bad case_formats 1 c.args.s.now c.args.at (seen field_read c.byte_at.ensures c.in-Got.is)
    (skip _ _ _ _ refl _ _ (found first _ (seen field_read c.opt_at.ensures c.in-Got-opt_at.is)).is
    (stop _ _ _ _ (half_of _ 2) _ _ (none first _ (seen field_read c.opt_at-2.ensures c.in_default-opt_at-2.is))))))

pub returns-in_default-opt_at-3 : goal.returns-in_default-opt_at-3
unfolding case_formats
returns-in_default-opt_at-3 c = sym (ap (map_read (with_bits case_heading_from)) (raw_bad case_formats 1 c.args.s.now c.args.at (seen field_read c.byte_at.ensures c.in-Got.is)
    (skip _ _ _ _ refl _ _ (found first _ (seen field_read c.opt_at.ensures c.in-Got-opt_at.is)).is
    (skip _ _ _ _ (half_of _ 2) _ _ (found first _ (seen field_read c.opt_at-2.ensures c.in-Got-opt_at-2.is)).is
    (stop _ _ _ _ (half_of _ 4) _ _ (none first _ (seen field_read c.opt_at-3.ensures c.in_default-opt_at-3.is)))))))

pub returns-in_default-mask_at : goal.returns-in_default-mask_at
unfolding case_formats
returns-in_default-mask_at c = sym (ap (map_read (with_bits case_heading_from)) (raw_bad case_formats 1 c.args.s.now c.args.at (seen field_read c.byte_at.ensures c.in-Got.is)
    (skip _ _ _ _ refl _ _ (found first _ (seen field_read c.opt_at.ensures c.in-Got-opt_at.is)).is
    (skip _ _ _ _ (half_of _ 2) _ _ (found first _ (seen field_read c.opt_at-2.ensures c.in-Got-opt_at-2.is)).is
    (skip _ _ _ _ (half_of _ 4) _ _ (found first _ (seen field_read c.opt_at-3.ensures c.in-Got-opt_at-3.is)).is
    (skip _ _ _ _ (half_of _ 8) _ _ (no_field c.args.s.now c.in-Got-opt_at-3.p2 (eqb (c.in-Got.bits / 8 % 2) 1))
    (stop _ _ _ _ (half_of _ 16) _ _ (none little _ (seen wide_read c.mask_at.ensures c.in_default-mask_at.is)))))))))

pub returns-in_default-opt_at-4 : goal.returns-in_default-opt_at-4
unfolding case_formats
returns-in_default-opt_at-4 c = sym (ap (map_read (with_bits case_heading_from)) (raw_bad case_formats 1 c.args.s.now c.args.at (seen field_read c.byte_at.ensures c.in-Got.is)
    (skip _ _ _ _ refl _ _ (found first _ (seen field_read c.opt_at.ensures c.in-Got-opt_at.is)).is
    (skip _ _ _ _ (half_of _ 2) _ _ (found first _ (seen field_read c.opt_at-2.ensures c.in-Got-opt_at-2.is)).is
    (skip _ _ _ _ (half_of _ 4) _ _ (found first _ (seen field_read c.opt_at-3.ensures c.in-Got-opt_at-3.is)).is
    (skip _ _ _ _ (half_of _ 8) _ _ (no_field c.args.s.now c.in-Got-opt_at-3.p2 (eqb (c.in-Got.bits / 8 % 2) 1))
    (skip _ _ _ _ (half_of _ 16) _ _ (found little _ (seen wide_read c.mask_at.ensures c.in-Got-mask_at.is)).is
    (stop _ _ _ _ (half_of _ 32) _ _ (none first _ (seen field_read c.opt_at-4.ensures c.in_default-opt_at-4.is))))))))))

pub returns-in_default-short_at : goal.returns-in_default-short_at
unfolding case_formats
returns-in_default-short_at c = sym (ap (map_read (with_bits case_heading_from)) (raw_bad case_formats 1 c.args.s.now c.args.at (seen field_read c.byte_at.ensures c.in-Got.is)
    (skip _ _ _ _ refl _ _ (found first _ (seen field_read c.opt_at.ensures c.in-Got-opt_at.is)).is
    (skip _ _ _ _ (half_of _ 2) _ _ (found first _ (seen field_read c.opt_at-2.ensures c.in-Got-opt_at-2.is)).is
    (skip _ _ _ _ (half_of _ 4) _ _ (found first _ (seen field_read c.opt_at-3.ensures c.in-Got-opt_at-3.is)).is
    (skip _ _ _ _ (half_of _ 8) _ _ (no_field c.args.s.now c.in-Got-opt_at-3.p2 (eqb (c.in-Got.bits / 8 % 2) 1))
    (skip _ _ _ _ (half_of _ 16) _ _ (found little _ (seen wide_read c.mask_at.ensures c.in-Got-mask_at.is)).is
    (skip _ _ _ _ (half_of _ 32) _ _ (given_of (eqb (c.in-Got.bits / 32 % 2) 1) c.args.s.now c.in-Got-mask_at.p4 evidence (seen field_read c.opt_at-4.ensures c.in-Got-opt_at-4.is))
    (stop _ _ _ _ (half_of _ 64) _ _ (none little _ (seen short_read c.short_at.ensures c.in_default-short_at.is)))))))))))

pub returns-then-bits-eq0 : goal.returns-then-bits-eq0
unfolding case_formats case_heading_of
returns-then-bits-eq0 c = rw (
  raw_got case_formats 1 c.args.s.now c.args.at (seen field_read c.byte_at.ensures c.in-Got.is)
      (more _ _ _ _ refl _ _ (found first _ (seen field_read c.opt_at.ensures c.in-Got-opt_at.is)).is
      (more _ _ _ _ (half_of _ 2) _ _ (found first _ (seen field_read c.opt_at-2.ensures c.in-Got-opt_at-2.is)).is
      (more _ _ _ _ (half_of _ 4) _ _ (found first _ (seen field_read c.opt_at-3.ensures c.in-Got-opt_at-3.is)).is
      (more _ _ _ _ (half_of _ 8) _ _ (no_field c.args.s.now c.in-Got-opt_at-3.p2 (eqb (c.in-Got.bits / 8 % 2) 1))
      (more _ _ _ _ (half_of _ 16) _ _ (found little _ (seen wide_read c.mask_at.ensures c.in-Got-mask_at.is)).is
      (more _ _ _ _ (half_of _ 32) _ _ (given_of (eqb (c.in-Got.bits / 32 % 2) 1) c.args.s.now c.in-Got-mask_at.p4 evidence (seen field_read c.opt_at-4.ensures c.in-Got-opt_at-4.is))
      (more _ _ _ _ (half_of _ 64) _ _ (found little _ (seen short_read c.short_at.ensures c.in-Got-short_at.is)).is
      (last _ _ _ c.if-bits-eq0.true)))))))),
  (found first _ (seen field_read c.opt_at.ensures c.in-Got-opt_at.is)).means,
  (found first _ (seen field_read c.opt_at-2.ensures c.in-Got-opt_at-2.is)).means,
  (found first _ (seen field_read c.opt_at-3.ensures c.in-Got-opt_at-3.is)).means,
  (found little _ (seen wide_read c.mask_at.ensures c.in-Got-mask_at.is)).means,
  (found little _ (seen short_read c.short_at.ensures c.in-Got-short_at.is)).means,
  has-bit c.in-Got.bits 3 8 refl,
)

pub returns : goal.returns
unfolding case_formats
returns c = sym (ap (map_read (with_bits case_heading_from)) (raw_bad case_formats 1 c.args.s.now c.args.at (seen field_read c.byte_at.ensures c.in-Got.is)
    (skip _ _ _ _ refl _ _ (found first _ (seen field_read c.opt_at.ensures c.in-Got-opt_at.is)).is
    (skip _ _ _ _ (half_of _ 2) _ _ (found first _ (seen field_read c.opt_at-2.ensures c.in-Got-opt_at-2.is)).is
    (skip _ _ _ _ (half_of _ 4) _ _ (found first _ (seen field_read c.opt_at-3.ensures c.in-Got-opt_at-3.is)).is
    (skip _ _ _ _ (half_of _ 8) _ _ (no_field c.args.s.now c.in-Got-opt_at-3.p2 (eqb (c.in-Got.bits / 8 % 2) 1))
    (skip _ _ _ _ (half_of _ 16) _ _ (found little _ (seen wide_read c.mask_at.ensures c.in-Got-mask_at.is)).is
    (skip _ _ _ _ (half_of _ 32) _ _ (given_of (eqb (c.in-Got.bits / 32 % 2) 1) c.args.s.now c.in-Got-mask_at.p4 evidence (seen field_read c.opt_at-4.ensures c.in-Got-opt_at-4.is))
    (skip _ _ _ _ (half_of _ 64) _ _ (found little _ (seen short_read c.short_at.ensures c.in-Got-short_at.is)).is
    (unknown _ _ _ c.if-bits-eq0.false))))))))))
