-- A boolean from its bit map on.
use mathlib.Core.Path.{refl, sym, ap}
use Prim.Native.Nat.{◌/◌, ◌%◌}
use lib.Dec.{eqb}
use Rattle.records.specs.paper.Fields.{evidence}
use Rattle.records.specs.paper.Case.{case_formats, boolean_from}
use Rattle.records.specs.code.Readers.{field_read, pairs_read, map_read, first}
use Rattle.records.specs.code.Passes.{with_bits}
use Rattle.records.proofs.Reading.{seen, found, none}
use Rattle.records.proofs.Chain.{more, skip, stop, last, unknown, half_of, raw_got, raw_bits, raw_bad, given_of}
use Rattle.records.proofs.case.reading.booleans.boolean_at.Goals as goal

pub returns-in_default : goal.returns-in_default
returns-in_default c = (sym (ap (map_read (with_bits boolean_from)) (raw_bits case_formats 3 c.args.s.now c.args.at (seen field_read c.byte_at.ensures c.in_default.is))), tt)

pub returns-in_default-opt_at : goal.returns-in_default-opt_at
unfolding case_formats
returns-in_default-opt_at c = (
  sym (ap (map_read (with_bits boolean_from)) (raw_bad case_formats 3 c.args.s.now c.args.at (seen field_read c.byte_at.ensures c.in-Got.is)
      (stop _ _ _ _ refl _ _ (none first _ (seen field_read c.opt_at.ensures c.in_default-opt_at.is))))),
  tt,
)

pub returns-in_default-opt_at-2 : goal.returns-in_default-opt_at-2
unfolding case_formats
returns-in_default-opt_at-2 c = (
  sym (ap (map_read (with_bits boolean_from)) (raw_bad case_formats 3 c.args.s.now c.args.at (seen field_read c.byte_at.ensures c.in-Got.is)
      (skip _ _ _ _ refl _ _ (found first _ (seen field_read c.opt_at.ensures c.in-Got-opt_at.is)).is
      (stop _ _ _ _ (half_of _ 2) _ _ (none first _ (seen field_read c.opt_at-2.ensures c.in_default-opt_at-2.is)))))),
  tt,
)

pub returns-in_default-pairs_at : goal.returns-in_default-pairs_at
unfolding case_formats
returns-in_default-pairs_at c = (
  sym (ap (map_read (with_bits boolean_from)) (raw_bad case_formats 3 c.args.s.now c.args.at (seen field_read c.byte_at.ensures c.in-Got.is)
      (skip _ _ _ _ refl _ _ (found first _ (seen field_read c.opt_at.ensures c.in-Got-opt_at.is)).is
      (skip _ _ _ _ (half_of _ 2) _ _ (given_of (eqb (c.in-Got.bits / 2 % 2) 1) c.args.s.now c.in-Got-opt_at.p0 evidence (seen field_read c.opt_at-2.ensures c.in-Got-opt_at-2.is))
      (stop _ _ _ _ (half_of _ 4) _ _ (seen (pairs_read c.args.s.now) c.pairs_at.ensures.0 c.in_default-pairs_at.is)))))),
  tt,
)

pub returns-then-bits-eq0 : goal.returns-then-bits-eq0
unfolding case_formats
returns-then-bits-eq0 c =
    let f0 = rw c.in-Got-pairs_at.is at c.pairs_at.ensures.1 in (
      rw (
        raw_got case_formats 3 c.args.s.now c.args.at (seen field_read c.byte_at.ensures c.in-Got.is)
            (more _ _ _ _ refl _ _ (found first _ (seen field_read c.opt_at.ensures c.in-Got-opt_at.is)).is
            (more _ _ _ _ (half_of _ 2) _ _ (given_of (eqb (c.in-Got.bits / 2 % 2) 1) c.args.s.now c.in-Got-opt_at.p0 evidence (seen field_read c.opt_at-2.ensures c.in-Got-opt_at-2.is))
            (more _ _ _ _ (half_of _ 4) _ _ (seen (pairs_read c.args.s.now) c.pairs_at.ensures.0 c.in-Got-pairs_at.is)
            (last _ _ _ c.if-bits-eq0.true)))),
        (found first _ (seen field_read c.opt_at.ensures c.in-Got-opt_at.is)).means,
      ),
      (f0.0, f0.1),
    )

pub returns : goal.returns
unfolding case_formats
returns c = (
  sym (ap (map_read (with_bits boolean_from)) (raw_bad case_formats 3 c.args.s.now c.args.at (seen field_read c.byte_at.ensures c.in-Got.is)
      (skip _ _ _ _ refl _ _ (found first _ (seen field_read c.opt_at.ensures c.in-Got-opt_at.is)).is
      (skip _ _ _ _ (half_of _ 2) _ _ (given_of (eqb (c.in-Got.bits / 2 % 2) 1) c.args.s.now c.in-Got-opt_at.p0 evidence (seen field_read c.opt_at-2.ensures c.in-Got-opt_at-2.is))
      (skip _ _ _ _ (half_of _ 4) _ _ (seen (pairs_read c.args.s.now) c.pairs_at.ensures.0 c.in-Got-pairs_at.is)
      (unknown _ _ _ c.if-bits-eq0.false)))))),
  tt,
)
