-- `expressions::evidence::mark` meets its contract.
use Rattle.expressions.proofs.evidence.mark.Goals as goal

pub returns : goal.returns
returns c = cc
