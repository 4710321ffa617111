-- `variables::coded`: a fact with its candidates, a decision with both.
use native.Mathlib.Omega.{arith}
use Rattle.probes.proofs.VariableLaws.{fact_code, decision_code}
use Rattle.probes.proofs.variables.coded.Goals as goal
use Rattle.probes.proofs.variables.coded.Goals.{else-at-lt64, then-at-lt64}

pub returns : goal.returns
returns c =
    rw (c.from.ensures, c.from-2.ensures) (elim c.if-at-lt64.branch [
      | then-at-lt64 w ↦ rw (w.choice-is, w.candidates-choice.ensures, c.from-at.ensures) (fact_code c.args.codes c.args.item (omega (arith, w.if-at-lt64.true)))
      | else-at-lt64 w ↦ rw w.choice-is (decision_code _ c.args.item (omega (arith, w.if-at-lt64.false)))
    ])
