use mathlib.Core.Path.{ap, ◌∙◌}
use native.Mathlib.Omega.{arith}
use lib.ListN.{take}
use Rattle.report.proofs.SearchLaws.{placed, chunks_front}
use Rattle.report.proofs.nine.place_of.Goals as goal

pub returns : goal.returns
returns c =
    let q = ap (take c.args.n) c.as_chunks.ensures.front ∙ chunks_front c.args.n _ c.args.s.now (omega arith) in
    placed c.args.n c.args.e.now c.args.s.now c.binary_search.result (rw q at c.binary_search.ensures.bound) (rw q at c.binary_search.ensures.position)
