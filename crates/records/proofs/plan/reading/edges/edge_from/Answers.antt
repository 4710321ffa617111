-- The edge that its fields and the bytes of its list make.
use Rattle.sets.specs.paper.Sets.{has}
use Rattle.records.specs.code.Decoded.{edge_of}
use Rattle.records.proofs.KindLaws.{bit_test}
use Rattle.records.proofs.plan.reading.edges.edge_from.Goals as goal

pub returns : goal.returns
unfolding edge_of has
returns c = rw (c.numbers_from-defeaters.ensures, bit_test c.args.bits 32)
