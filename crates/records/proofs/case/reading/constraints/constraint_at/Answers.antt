-- A constraint from its bit map on.
use mathlib.Core.Path.{refl, sym, ap}
use Rattle.records.specs.paper.Case.{case_formats, constraint_from}
use Rattle.records.specs.code.Readers.{field_read, map_read, first}
use Rattle.records.specs.code.Passes.{with_bits}
use Rattle.records.proofs.Reading.{seen, found, none}
use Rattle.records.proofs.Chain.{more, skip, stop, last, unknown, raw_got, raw_bits, raw_bad}
use Rattle.records.proofs.case.reading.constraints.constraint_at.Goals as goal

pub returns-in_default : goal.returns-in_default
returns-in_default c = sym (ap (map_read (with_bits constraint_from)) (raw_bits case_formats 5 c.args.s.now c.args.at (seen field_read c.byte_at.ensures c.in_default.is)))

pub returns-in_default-opt_at : goal.returns-in_default-opt_at
unfolding case_formats
returns-in_default-opt_at c = sym (ap (map_read (with_bits constraint_from)) (raw_bad case_formats 5 c.args.s.now c.args.at (seen field_read c.byte_at.ensures c.in-Got.is)
    (stop _ _ _ _ refl _ _ (none first _ (seen field_read c.opt_at.ensures c.in_default-opt_at.is)))))

pub returns-then-bits-eq0 : goal.returns-then-bits-eq0
unfolding case_formats
returns-then-bits-eq0 c = rw (
  raw_got case_formats 5 c.args.s.now c.args.at (seen field_read c.byte_at.ensures c.in-Got.is)
      (more _ _ _ _ refl _ _ (found first _ (seen field_read c.opt_at.ensures c.in-Got-opt_at.is)).is
      (last _ _ _ c.if-bits-eq0.true)),
  (found first _ (seen field_read c.opt_at.ensures c.in-Got-opt_at.is)).means,
)

pub returns : goal.returns
unfolding case_formats
returns c = sym (ap (map_read (with_bits constraint_from)) (raw_bad case_formats 5 c.args.s.now c.args.at (seen field_read c.byte_at.ensures c.in-Got.is)
    (skip _ _ _ _ refl _ _ (found first _ (seen field_read c.opt_at.ensures c.in-Got-opt_at.is)).is
    (unknown _ _ _ c.if-bits-eq0.false))))
