-- Two bytes of a fact, or four and its tuple.
use native.Mathlib.Omega.{arith}
use Rattle.page.proofs.PageLaws.{puts_then}
use Rattle.encoding.proofs.KindBytes.{boolean_bytes, fact-bytes}
use Rattle.encoding.proofs.facts.FactRecord.put.Goals as goal

pub returns-then-self : goal.returns-then-self
returns-then-self c = rw (← boolean_bytes c.args.self c.if-self.true) c.put_all.ensures

pub returns : goal.returns
returns c =
    rw (← fact-bytes c.args.self c.min-n.result (omega (arith, c.well_formed)) (omega arith) c.if-self.false)
    (puts_then _ _ _ _ _ c.put_all-next.ensures c.put_all-2.ensures)
