-- `Units::join`: no block, one that is there, or a new one.
use mathlib.Core.Path.{sym, ◌∙◌}
use native.Mathlib.Omega.{arith}
use lib.ListN.{length-set}
use Rattle.billing.proofs.UnitLaws.{joins-none, joins-known, joins_new}
use Rattle.billing.proofs.units.Units.join.Goals as goal
use Rattle.billing.proofs.units.Units.join.Goals.{then-block-eq0-via-then-block-eq0, then-block-eq0-via-else-block-eq0+then-contains}

pub returns-then-block-eq0-clause-units : goal.returns-then-block-eq0-clause-units
returns-then-block-eq0-clause-units c =
    record {
      blocks = elim c.then-block-eq0.branch [
        | then-block-eq0-via-then-block-eq0 w ↦ joins-none _ _ w.if-block-eq0.true
        | then-block-eq0-via-else-block-eq0+then-contains w ↦ joins-known _ _ (sym w.contains.ensures.value ∙ w.if-contains.true)
      ];
      few = omega arith;
      long = omega (arith, c.well_formed);
    }

pub returns-clause-units : goal.returns-clause-units
returns-clause-units c =
    record {
      blocks = joins_new c.args.self.blocks c.args.self.count _ (omega (arith, c.well_formed)) c.if-block-eq0.false (sym c.contains.ensures.value ∙ c.if-contains.false);
      few = omega arith;
      long = simp length-set (omega (arith, c.well_formed));
    }
