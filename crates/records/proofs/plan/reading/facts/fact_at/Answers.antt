-- A fact from its bit map on.
use mathlib.Core.Path.{refl, sym, ap}
use Prim.Native.Nat.{◌%◌}
use lib.Dec.{eqb}
use Rattle.records.specs.code.Readers.{field_read, list_read, map_read, first}
use Rattle.records.specs.code.Passes.{with_bits}
use Rattle.records.specs.paper.Plan.{fact_from}
use Rattle.records.proofs.Reading.{seen, found, none}
use Rattle.records.proofs.Chain.{more, skip, stop, last, unknown, half_of, one-given, list-absent, raw_got, raw_bits, raw_bad}
use Rattle.records.specs.paper.Plan as paper
use Rattle.records.proofs.plan.reading.facts.fact_at.Goals as goal

pub returns-in_default : goal.returns-in_default
returns-in_default c = (sym (ap (map_read (with_bits fact_from)) (raw_bits paper.plan_formats 2 c.args.s.now c.args.at (seen field_read c.byte_at.ensures c.in_default.is))), tt)

pub returns-in_default-opt_at : goal.returns-in_default-opt_at
unfolding paper.plan_formats
returns-in_default-opt_at c = (
  sym (ap (map_read (with_bits fact_from)) (raw_bad paper.plan_formats 2 c.args.s.now c.args.at (seen field_read c.byte_at.ensures c.in-Got.is)
      (stop _ _ _ _ refl _ _ (none first _ (seen field_read c.opt_at.ensures c.in_default-opt_at.is))))),
  tt,
)

pub returns-in_default-list_at : goal.returns-in_default-list_at
unfolding paper.plan_formats
returns-in_default-list_at c = (
  sym (ap (map_read (with_bits fact_from)) (raw_bad paper.plan_formats 2 c.args.s.now c.args.at (seen field_read c.byte_at.ensures c.in-Got.is)
      (skip _ _ _ _ refl _ _ (found first _ (seen field_read c.opt_at.ensures c.in-Got-opt_at.is)).is
      (stop _ _ _ _ (half_of _ 2) _ _ (seen (list_read c.args.s.now) c.list_at.ensures.0 c.in_default-list_at.is))))),
  tt,
)

pub returns-then-bits-eq0 : goal.returns-then-bits-eq0
unfolding paper.plan_formats
returns-then-bits-eq0 c =
    let f0 = (rw c.in-Got-list_at.is at c.list_at.ensures.1) in (
      rw (
        raw_got paper.plan_formats 2 c.args.s.now c.args.at (seen field_read c.byte_at.ensures c.in-Got.is)
            (more _ _ _ _ refl _ _ (found first _ (seen field_read c.opt_at.ensures c.in-Got-opt_at.is)).is
            (more _ _ _ _ (half_of _ 2) _ _ (seen (list_read c.args.s.now) c.list_at.ensures.0 c.in-Got-list_at.is)
            (last _ _ _ c.if-bits-eq0.true))),
        one-given c.args.s.now c.in-Got.p (eqb (c.in-Got.bits % 2) 1) (record { low = 0; top = 255 }) (found first _ (seen field_read c.opt_at.ensures c.in-Got-opt_at.is)).is (found first _ (seen field_read c.opt_at.ensures c.in-Got-opt_at.is)).means,
      ),
      (f0.0, f0.1, λ q. list-absent _ _ _ _ _ _ (rw c.in-Got-list_at.is at c.list_at.ensures.0) q),
    )

pub returns : goal.returns
unfolding paper.plan_formats
returns c = (
  sym (ap (map_read (with_bits fact_from)) (raw_bad paper.plan_formats 2 c.args.s.now c.args.at (seen field_read c.byte_at.ensures c.in-Got.is)
      (skip _ _ _ _ refl _ _ (found first _ (seen field_read c.opt_at.ensures c.in-Got-opt_at.is)).is
      (skip _ _ _ _ (half_of _ 2) _ _ (seen (list_read c.args.s.now) c.list_at.ensures.0 c.in-Got-list_at.is)
      (unknown _ _ _ c.if-bits-eq0.false))))),
  tt,
)
