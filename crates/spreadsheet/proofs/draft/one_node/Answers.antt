-- `draft::one_node`: one node, put first.
use native.Mathlib.Omega.{arith}
use Rattle.records.specs.code.Decoded.{node_by, node_of}
use Rattle.records.proofs.KindLaws.{made_more}
use Rattle.spreadsheet.proofs.draft.one_node.Goals as goal

pub returns : goal.returns
unfolding node_of node_by
returns c =
    let e = c.no_nodes-nodes in
    made_more node_of e.result.items 0 _ (omega (arith, e.ensures))
