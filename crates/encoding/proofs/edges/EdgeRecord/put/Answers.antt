-- Six bytes of an edge, then its defeaters.
use Prim.Native.Nat.{◌+◌}
use Rattle.records.specs.code.Decoded.{edge_of}
use Rattle.page.proofs.PageLaws.{puts_then}
use Rattle.encoding.proofs.KindBytes.{edge-bytes}
use Rattle.encoding.proofs.edges.EdgeRecord.put.Goals as goal

pub returns : goal.returns
unfolding edge_of
returns c =
    rw (← edge-bytes (edge_of c.args.self) (15 + c.weigh.result + c.weigh-2.result) (rw (← c.any.ensures, c.weigh.ensures.0, c.weigh-2.ensures.0)))
    (puts_then _ _ _ _ _ c.put_all-next.ensures c.put_list.ensures)
