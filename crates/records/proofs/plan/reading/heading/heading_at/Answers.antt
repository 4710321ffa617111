-- The heading from its bit map on.
use mathlib.Core.Path.{refl, sym, ap}
use Prim.Native.Nat.{◌/◌, ◌%◌}
use lib.Dec.{eqb}
use Rattle.records.specs.code.Readers.{field_read, map_read, first}
use Rattle.records.specs.code.Passes.{with_bits}
use Rattle.records.specs.paper.Fields.{citation}
use Rattle.records.specs.paper.Plan.{heading_from}
use Rattle.records.proofs.Reading.{seen, found, none}
use Rattle.records.proofs.Chain.{more, skip, stop, last, unknown, half_of, one-given, raw_got, raw_bits, raw_bad}
use Rattle.records.specs.paper.Plan as paper
use Rattle.records.proofs.plan.reading.heading.heading_at.Goals as goal

pub returns-in_default : goal.returns-in_default
returns-in_default c = sym (ap (map_read (with_bits heading_from)) (raw_bits paper.plan_formats 1 c.args.s.now c.args.at (seen field_read c.byte_at.ensures c.in_default.is)))

pub returns-in_default-opt_at : goal.returns-in_default-opt_at
unfolding paper.plan_formats
returns-in_default-opt_at c =
    sym (ap (map_read (with_bits heading_from)) (raw_bad paper.plan_formats 1 c.args.s.now c.args.at (seen field_read c.byte_at.ensures c.in-Got.is)
    (stop _ _ _ _ refl _ _ (none first _ (seen field_read c.opt_at.ensures c.in_default-opt_at.is)))))

pub returns-in_default-opt_at-2 : goal.returns-in_default-opt_at-2
unfolding paper.plan_formats
returns-in_default-opt_at-2 c =
    sym (ap (map_read (with_bits heading_from)) (raw_bad paper.plan_formats 1 c.args.s.now c.args.at (seen field_read c.byte_at.ensures c.in-Got.is)
    (skip _ _ _ _ refl _ _ (found first _ (seen field_read c.opt_at.ensures c.in-Got-opt_at.is)).is
    (stop _ _ _ _ (half_of _ 2) _ _ (none first _ (seen field_read c.opt_at-2.ensures c.in_default-opt_at-2.is))))))

pub returns-then-bits-eq0 : goal.returns-then-bits-eq0
unfolding paper.plan_formats
returns-then-bits-eq0 c =
    rw (
      raw_got paper.plan_formats 1 c.args.s.now c.args.at (seen field_read c.byte_at.ensures c.in-Got.is)
          (more _ _ _ _ refl _ _ (found first _ (seen field_read c.opt_at.ensures c.in-Got-opt_at.is)).is
          (more _ _ _ _ (half_of _ 2) _ _ (found first _ (seen field_read c.opt_at-2.ensures c.in-Got-opt_at-2.is)).is
          (last _ _ _ c.if-bits-eq0.true))),
      (found first _ (seen field_read c.opt_at.ensures c.in-Got-opt_at.is)).means,
      one-given c.args.s.now c.in-Got-opt_at.p0 (eqb (c.in-Got.bits / 2 % 2) 1) citation (found first _ (seen field_read c.opt_at-2.ensures c.in-Got-opt_at-2.is)).is (found first _ (seen field_read c.opt_at-2.ensures c.in-Got-opt_at-2.is)).means,
    )

pub returns : goal.returns
unfolding paper.plan_formats
returns c =
    sym (ap (map_read (with_bits heading_from)) (raw_bad paper.plan_formats 1 c.args.s.now c.args.at (seen field_read c.byte_at.ensures c.in-Got.is)
    (skip _ _ _ _ refl _ _ (found first _ (seen field_read c.opt_at.ensures c.in-Got-opt_at.is)).is
    (skip _ _ _ _ (half_of _ 2) _ _ (found first _ (seen field_read c.opt_at-2.ensures c.in-Got-opt_at-2.is)).is
    (unknown _ _ _ c.if-bits-eq0.false)))))
