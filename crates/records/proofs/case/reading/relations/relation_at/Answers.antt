-- A relation from its bit map on.
use mathlib.Core.Path.{refl, sym, ap}
use Rattle.records.specs.paper.Case.{case_formats, relation_from}
use Rattle.records.specs.code.Decoded.{relation_of}
use Rattle.records.specs.code.Readers.{field_read, map_read, first}
use Rattle.records.specs.code.Passes.{with_bits}
use Rattle.records.proofs.Reading.{seen, found, none}
use Rattle.records.proofs.Chain.{more, skip, stop, last, unknown, half_of, raw_got, raw_bits, raw_bad}
use Rattle.records.proofs.case.reading.relations.relation_at.Goals as goal

pub returns-in_default : goal.returns-in_default
returns-in_default c = sym (ap (map_read (with_bits relation_from)) (raw_bits case_formats 4 c.args.s.now c.args.at (seen field_read c.byte_at.ensures c.in_default.is)))

pub returns-in_default-opt_at : goal.returns-in_default-opt_at
unfolding case_formats
returns-in_default-opt_at c = sym (ap (map_read (with_bits relation_from)) (raw_bad case_formats 4 c.args.s.now c.args.at (seen field_read c.byte_at.ensures c.in-Got.is)
    (stop _ _ _ _ refl _ _ (none first _ (seen field_read c.opt_at.ensures c.in_default-opt_at.is)))))

pub returns-in_default-opt_at-2 : goal.returns-in_default-opt_at-2
unfolding case_formats
returns-in_default-opt_at-2 c = sym (ap (map_read (with_bits relation_from)) (raw_bad case_formats 4 c.args.s.now c.args.at (seen field_read c.byte_at.ensures c.in-Got.is)
    (skip _ _ _ _ refl _ _ (found first _ (seen field_read c.opt_at.ensures c.in-Got-opt_at.is)).is
    (stop _ _ _ _ (half_of _ 2) _ _ (none first _ (seen field_read c.opt_at-2.ensures c.in_default-opt_at-2.is))))))

pub returns-in_default-opt_at-3 : goal.returns-in_default-opt_at-3
unfolding case_formats
returns-in_default-opt_at-3 c = sym (ap (map_read (with_bits relation_from)) (raw_bad case_formats 4 c.args.s.now c.args.at (seen field_read c.byte_at.ensures c.in-Got.is)
    (skip _ _ _ _ refl _ _ (found first _ (seen field_read c.opt_at.ensures c.in-Got-opt_at.is)).is
    (skip _ _ _ _ (half_of _ 2) _ _ (found first _ (seen field_read c.opt_at-2.ensures c.in-Got-opt_at-2.is)).is
    (stop _ _ _ _ (half_of _ 4) _ _ (none first _ (seen field_read c.opt_at-3.ensures c.in_default-opt_at-3.is)))))))

pub returns-then-bits-eq0 : goal.returns-then-bits-eq0
unfolding case_formats relation_of
returns-then-bits-eq0 c = rw (
  raw_got case_formats 4 c.args.s.now c.args.at (seen field_read c.byte_at.ensures c.in-Got.is)
      (more _ _ _ _ refl _ _ (found first _ (seen field_read c.opt_at.ensures c.in-Got-opt_at.is)).is
      (more _ _ _ _ (half_of _ 2) _ _ (found first _ (seen field_read c.opt_at-2.ensures c.in-Got-opt_at-2.is)).is
      (more _ _ _ _ (half_of _ 4) _ _ (found first _ (seen field_read c.opt_at-3.ensures c.in-Got-opt_at-3.is)).is
      (last _ _ _ c.if-bits-eq0.true)))),
  (found first _ (seen field_read c.opt_at.ensures c.in-Got-opt_at.is)).means,
  (found first _ (seen field_read c.opt_at-2.ensures c.in-Got-opt_at-2.is)).means,
  (found first _ (seen field_read c.opt_at-3.ensures c.in-Got-opt_at-3.is)).means,
)

pub returns : goal.returns
unfolding case_formats
returns c = sym (ap (map_read (with_bits relation_from)) (raw_bad case_formats 4 c.args.s.now c.args.at (seen field_read c.byte_at.ensures c.in-Got.is)
    (skip _ _ _ _ refl _ _ (found first _ (seen field_read c.opt_at.ensures c.in-Got-opt_at.is)).is
    (skip _ _ _ _ (half_of _ 2) _ _ (found first _ (seen field_read c.opt_at-2.ensures c.in-Got-opt_at-2.is)).is
    (skip _ _ _ _ (half_of _ 4) _ _ (found first _ (seen field_read c.opt_at-3.ensures c.in-Got-opt_at-3.is)).is
    (unknown _ _ _ c.if-bits-eq0.false))))))
