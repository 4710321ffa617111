use mathlib.Core.Path.{subst}
use Rattle.std.proofs.lemmas.List.{map-id}
use Rattle.report.specs.paper.LineAt.{lines_from}
use Rattle.report.specs.paper.Units.{units}
use Rattle.billing.specs.Shown.{IsUnits}
use Rattle.billing.proofs.units.units_of.Goals as goal

pub returns : goal.returns
returns c = subst (λ ls. IsUnits (units ls) c.units_by.result) (map-id (lines_from c.args.lines.now 0 c.args.n)) c.units_by.ensures
