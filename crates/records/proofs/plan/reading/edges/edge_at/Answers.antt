-- An edge from its bit map on.
use mathlib.Core.Path.{refl, sym, ap}
use Prim.Native.Nat.{◌/◌, ◌%◌}
use lib.Dec.{eqb}
use Rattle.records.specs.code.Readers.{field_read, list_read, map_read, first}
use Rattle.records.specs.code.Passes.{with_bits}
use Rattle.records.proofs.Reading.{seen, found, none}
use Rattle.records.proofs.Chain.{more, skip, stop, last, unknown, no_field, half_of, raw_got, raw_bits, raw_bad}
use Rattle.records.specs.paper.Plan as paper
use Rattle.records.proofs.plan.reading.edges.edge_at.Goals as goal

pub returns-in_default : goal.returns-in_default
returns-in_default c = (sym (ap (map_read (with_bits paper.edge_from)) (raw_bits paper.plan_formats 4 c.args.s.now c.args.at (seen field_read c.byte_at.ensures c.in_default.is))), tt)

pub returns-in_default-opt_at : goal.returns-in_default-opt_at
unfolding paper.plan_formats
returns-in_default-opt_at c = (
  sym (ap (map_read (with_bits paper.edge_from)) (raw_bad paper.plan_formats 4 c.args.s.now c.args.at (seen field_read c.byte_at.ensures c.in-Got.is)
      (stop _ _ _ _ refl _ _ (none first _ (seen field_read c.opt_at.ensures c.in_default-opt_at.is))))),
  tt,
)

pub returns-in_default-opt_at-2 : goal.returns-in_default-opt_at-2
unfolding paper.plan_formats
returns-in_default-opt_at-2 c = (
  sym (ap (map_read (with_bits paper.edge_from)) (raw_bad paper.plan_formats 4 c.args.s.now c.args.at (seen field_read c.byte_at.ensures c.in-Got.is)
      (skip _ _ _ _ refl _ _ (found first _ (seen field_read c.opt_at.ensures c.in-Got-opt_at.is)).is
      (stop _ _ _ _ (half_of _ 2) _ _ (none first _ (seen field_read c.opt_at-2.ensures c.in_default-opt_at-2.is)))))),
  tt,
)

pub returns-in_default-opt_at-3 : goal.returns-in_default-opt_at-3
unfolding paper.plan_formats
returns-in_default-opt_at-3 c = (
  sym (ap (map_read (with_bits paper.edge_from)) (raw_bad paper.plan_formats 4 c.args.s.now c.args.at (seen field_read c.byte_at.ensures c.in-Got.is)
      (skip _ _ _ _ refl _ _ (found first _ (seen field_read c.opt_at.ensures c.in-Got-opt_at.is)).is
      (skip _ _ _ _ (half_of _ 2) _ _ (found first _ (seen field_read c.opt_at-2.ensures c.in-Got-opt_at-2.is)).is
      (stop _ _ _ _ (half_of _ 4) _ _ (none first _ (seen field_read c.opt_at-3.ensures c.in_default-opt_at-3.is))))))),
  tt,
)

pub returns-in_default-opt_at-4 : goal.returns-in_default-opt_at-4
unfolding paper.plan_formats
returns-in_default-opt_at-4 c = (
  sym (ap (map_read (with_bits paper.edge_from)) (raw_bad paper.plan_formats 4 c.args.s.now c.args.at (seen field_read c.byte_at.ensures c.in-Got.is)
      (skip _ _ _ _ refl _ _ (found first _ (seen field_read c.opt_at.ensures c.in-Got-opt_at.is)).is
      (skip _ _ _ _ (half_of _ 2) _ _ (found first _ (seen field_read c.opt_at-2.ensures c.in-Got-opt_at-2.is)).is
      (skip _ _ _ _ (half_of _ 4) _ _ (found first _ (seen field_read c.opt_at-3.ensures c.in-Got-opt_at-3.is)).is
      (stop _ _ _ _ (half_of _ 8) _ _ (none first _ (seen field_read c.opt_at-4.ensures c.in_default-opt_at-4.is)))))))),
  tt,
)

pub returns-in_default-list_at : goal.returns-in_default-list_at
unfolding paper.plan_formats
returns-in_default-list_at c = (
  sym (ap (map_read (with_bits paper.edge_from)) (raw_bad paper.plan_formats 4 c.args.s.now c.args.at (seen field_read c.byte_at.ensures c.in-Got.is)
      (skip _ _ _ _ refl _ _ (found first _ (seen field_read c.opt_at.ensures c.in-Got-opt_at.is)).is
      (skip _ _ _ _ (half_of _ 2) _ _ (found first _ (seen field_read c.opt_at-2.ensures c.in-Got-opt_at-2.is)).is
      (skip _ _ _ _ (half_of _ 4) _ _ (found first _ (seen field_read c.opt_at-3.ensures c.in-Got-opt_at-3.is)).is
      (skip _ _ _ _ (half_of _ 8) _ _ (found first _ (seen field_read c.opt_at-4.ensures c.in-Got-opt_at-4.is)).is
      (stop _ _ _ _ (half_of _ 16) _ _ (seen (list_read c.args.s.now) c.list_at.ensures.0 c.in_default-list_at.is)))))))),
  tt,
)

pub returns-then-bits-eq0 : goal.returns-then-bits-eq0
unfolding paper.plan_formats
returns-then-bits-eq0 c =
    let f0 = (rw c.in-Got-list_at.is at c.list_at.ensures.1) in (
      rw (
        raw_got paper.plan_formats 4 c.args.s.now c.args.at (seen field_read c.byte_at.ensures c.in-Got.is)
            (more _ _ _ _ refl _ _ (found first _ (seen field_read c.opt_at.ensures c.in-Got-opt_at.is)).is
            (more _ _ _ _ (half_of _ 2) _ _ (found first _ (seen field_read c.opt_at-2.ensures c.in-Got-opt_at-2.is)).is
            (more _ _ _ _ (half_of _ 4) _ _ (found first _ (seen field_read c.opt_at-3.ensures c.in-Got-opt_at-3.is)).is
            (more _ _ _ _ (half_of _ 8) _ _ (found first _ (seen field_read c.opt_at-4.ensures c.in-Got-opt_at-4.is)).is
            (more _ _ _ _ (half_of _ 16) _ _ (seen (list_read c.args.s.now) c.list_at.ensures.0 c.in-Got-list_at.is)
            (more _ _ _ _ (half_of _ 32) _ _ (no_field c.args.s.now c.in-Got-list_at.next (eqb (c.in-Got.bits / 32 % 2) 1))
            (last _ _ _ c.if-bits-eq0.true))))))),
        (found first _ (seen field_read c.opt_at.ensures c.in-Got-opt_at.is)).means,
        (found first _ (seen field_read c.opt_at-2.ensures c.in-Got-opt_at-2.is)).means,
        (found first _ (seen field_read c.opt_at-3.ensures c.in-Got-opt_at-3.is)).means,
        (found first _ (seen field_read c.opt_at-4.ensures c.in-Got-opt_at-4.is)).means,
      ),
      (f0.0, f0.1),
    )

pub returns : goal.returns
unfolding paper.plan_formats
returns c = (
  sym (ap (map_read (with_bits paper.edge_from)) (raw_bad paper.plan_formats 4 c.args.s.now c.args.at (seen field_read c.byte_at.ensures c.in-Got.is)
      (skip _ _ _ _ refl _ _ (found first _ (seen field_read c.opt_at.ensures c.in-Got-opt_at.is)).is
      (skip _ _ _ _ (half_of _ 2) _ _ (found first _ (seen field_read c.opt_at-2.ensures c.in-Got-opt_at-2.is)).is
      (skip _ _ _ _ (half_of _ 4) _ _ (found first _ (seen field_read c.opt_at-3.ensures c.in-Got-opt_at-3.is)).is
      (skip _ _ _ _ (half_of _ 8) _ _ (found first _ (seen field_read c.opt_at-4.ensures c.in-Got-opt_at-4.is)).is
      (skip _ _ _ _ (half_of _ 16) _ _ (seen (list_read c.args.s.now) c.list_at.ensures.0 c.in-Got-list_at.is)
      (skip _ _ _ _ (half_of _ 32) _ _ (no_field c.args.s.now c.in-Got-list_at.next (eqb (c.in-Got.bits / 32 % 2) 1))
      (unknown _ _ _ c.if-bits-eq0.false))))))))),
  tt,
)
