use mathlib.Core.Path.{ap, ◌∙◌}
use native.Mathlib.Omega.{arith}
use Rattle.records.specs.code.Decoded.{decisions_of}
use Rattle.page.specs.Page.{puts}
use Rattle.encoding.specs.paper.Encoded.{decision_bytes}
use Rattle.encoding.proofs.DecisionBytes.{pairs, pair-none, pair_start, pair-next, pair_end}
use Rattle.encoding.proofs.cuts.put_decisions.Goals as goal

pub returns-then-d-eq0 : goal.returns-then-d-eq0
unfolding puts decisions_of
returns-then-d-eq0 c = let d = c.args.d in rw (pair-none d.edges d.verdicts d.count c.if-d-eq0.true)

pub loop-i-preserved : goal.loop-i-preserved
loop-i-preserved c =
    let d = c.args.d in
    pair-next d.edges d.verdicts d.count c.loop-i.i _ _ (omega arith) c.put_all-next.ensures ∙ c.loop-i.invariant

pub returns : goal.returns
unfolding decisions_of puts
returns c =
    let d = c.args.d in
    rw (pair_start d.edges d.verdicts d.count c.if-d-eq0.false)
    (pair_end d.edges d.verdicts d.count c.loop-i.i _ (omega arith) ∙ c.loop-i.invariant ∙ ap (λ q. puts q (decision_bytes (pairs d.edges d.verdicts d.count))) c.put-next.ensures)
