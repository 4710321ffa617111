-- The node that the lowest bit says.
use Rattle.records.specs.code.Decoded as decoded
use Rattle.records.proofs.KindLaws.{bit0_on, bit0_off, bit-on, bit_off}
use Rattle.records.proofs.plan.reading.nodes.node_from.Goals as goal

pub returns-then-bits-eq1 : goal.returns-then-bits-eq1
unfolding decoded.node_of decoded.node_by
returns-then-bits-eq1 c = rw (bit0_on c.args.bits c.if-bits-eq1.true)

pub returns-then-bits-eq1-2 : goal.returns-then-bits-eq1-2
unfolding decoded.node_of decoded.node_by
returns-then-bits-eq1-2 c = rw (bit0_off c.args.bits c.if-bits-eq1.false, bit-on c.args.bits 1 c.if-bits-eq1-2.true)

pub numbers_from-children-requires : goal.numbers_from-children-requires
numbers_from-children-requires c = (c.requires.0, c.requires.1)

pub returns-then-bits-eq1-3 : goal.returns-then-bits-eq1-3
unfolding decoded.node_of decoded.node_by
returns-then-bits-eq1-3 c = rw (bit0_off c.args.bits c.if-bits-eq1.false, bit_off c.args.bits 1 c.if-bits-eq1-2.false, bit-on c.args.bits 2 c.if-bits-eq1-3.true, c.numbers_from-children.ensures)

pub numbers_from-children-requires-then-bits-eq1-4 : goal.numbers_from-children-requires-then-bits-eq1-4
numbers_from-children-requires-then-bits-eq1-4 c = (c.requires.2, c.requires.3)

pub returns-then-bits-eq1-4 : goal.returns-then-bits-eq1-4
unfolding decoded.node_of decoded.node_by
returns-then-bits-eq1-4 c = rw (bit0_off c.args.bits c.if-bits-eq1.false, bit_off c.args.bits 1 c.if-bits-eq1-2.false, bit_off c.args.bits 2 c.if-bits-eq1-3.false, bit-on c.args.bits 3 c.if-bits-eq1-4.true, c.numbers_from-children-then-bits-eq1-4.ensures)

pub returns : goal.returns
unfolding decoded.node_of decoded.node_by
returns c = rw (bit0_off c.args.bits c.if-bits-eq1.false, bit_off c.args.bits 1 c.if-bits-eq1-2.false, bit_off c.args.bits 2 c.if-bits-eq1-3.false, bit_off c.args.bits 3 c.if-bits-eq1-4.false)
