-- `variables::varies`: a fact by its code, a decision always.
use mathlib.Core.Path.{◌∙◌}
use native.Mathlib.Omega.{arith}
use borrow.Author.Tests.{le-leb}
use Rattle.probes.proofs.VariableLaws.{fact-varies, decision-varies}
use Rattle.probes.proofs.variables.varies.Goals as goal

pub returns-then-at-ge64 : goal.returns-then-at-ge64
returns-then-at-ge64 c = le-leb 64 c.from-at.result c.if-at-ge64.true ∙ decision-varies _ c.args.item (omega arith)

pub returns-else-at-ge64 : goal.returns-else-at-ge64
returns-else-at-ge64 c = rw c.from-at.ensures (fact-varies c.args.codes c.args.item (omega arith))
