-- Twelve bytes of a cut, then its election, its decisions and the cuts that it precedes.
use Prim.Native.Nat.{◌+◌}
use Rattle.records.specs.code.Decoded.{decisions_of, cut_of}
use Rattle.page.proofs.PageLaws.{puts_then}
use Rattle.encoding.proofs.ElectionBytes.{election-stands}
use Rattle.encoding.proofs.DecisionBytes.{pairs_stand}
use Rattle.encoding.proofs.KindBytes.{cut-bytes}
use Rattle.encoding.proofs.cuts.CutRecord.put.Goals as goal

pub returns : goal.returns
unfolding cut_of decisions_of
returns c =
    let d = c.args.self.decisions in
    rw (
      ← cut-bytes (cut_of c.args.self) (7 + c.weigh.result + c.weigh-2.result + c.weigh-3.result)
          (rw (election-stands c.args.self.election, pairs_stand d.edges d.verdicts d.count, ← c.any.ensures, c.weigh.ensures.0, c.weigh-2.ensures.0, c.weigh-3.ensures.0)),
      ← c.mask_bytes.ensures,
    )
    (puts_then _ _ _ _ _ c.put_all-next.ensures (puts_then _ _ _ _ _ c.put_all-next-2.ensures (puts_then _ _ _ _ _ c.put_all-next-3.ensures
    (puts_then _ _ _ _ _ c.put_election-next.ensures (puts_then _ _ _ _ _ c.put_decisions-next.ensures c.put_list.ensures)))))
