-- The cut that its fields and the bytes of its lists make.
use native.Mathlib.Omega.{arith}
use Rattle.records.proofs.KindLaws.{cut_is}
use Rattle.records.proofs.plan.reading.cuts.cut_from.Goals as goal

pub returns : goal.returns
returns c =
    let x = c.args.fields in let d = c.decisions_from-decisions in
    (cut_is x.members x.condition x.citation x.election d.result c.numbers_from-precedes.result d.ensures.0 c.numbers_from-precedes.ensures, omega (arith, d.ensures.1, c.requires.0))
