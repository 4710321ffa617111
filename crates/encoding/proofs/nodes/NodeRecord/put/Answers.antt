-- A node's bytes by its sort.
use native.Mathlib.Omega.{arith}
use Rattle.records.specs.code.Decoded.{numbers_of, node_of}
use Rattle.encoding.proofs.KindBytes.{literal_bytes, fact_node_bytes, and_bytes, or_bytes, not_bytes}
use Rattle.encoding.proofs.nodes.NodeRecord.put.Goals as goal

pub returns-in-0 : goal.returns-in-0
unfolding node_of
returns-in-0 c = rw (← literal_bytes c.args.self.sort c.args.self.number (numbers_of c.args.self.children) c.in-0.is) c.put_all.ensures

pub returns-in-1 : goal.returns-in-1
unfolding node_of
returns-in-1 c = rw (← fact_node_bytes c.args.self.sort c.args.self.number (numbers_of c.args.self.children) c.in-1.is) c.put_all-in-1.ensures

pub returns-in-2 : goal.returns-in-2
unfolding node_of
returns-in-2 c = rw (← and_bytes c.args.self.sort c.args.self.number (numbers_of c.args.self.children) c.in-2.is) c.put_children.ensures

pub returns-in-3 : goal.returns-in-3
unfolding node_of
returns-in-3 c = rw (← or_bytes c.args.self.sort c.args.self.number (numbers_of c.args.self.children) c.in-3.is) c.put_children-in-3.ensures

pub returns-in_default : goal.returns-in_default
unfolding node_of
returns-in_default c = rw (← not_bytes c.args.self.sort c.args.self.number (numbers_of c.args.self.children) (omega arith)) c.put_all-in_default.ensures
