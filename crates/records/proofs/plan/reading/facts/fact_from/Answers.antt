-- The fact that its fields and the bytes of its tuple make.
use mathlib.Core.Path.{refl}
use Rattle.records.proofs.KindLaws.{fact_is}
use Rattle.records.proofs.plan.reading.facts.fact_from.Goals as goal

pub returns : goal.returns
returns c =
    let a = c.args in
    (fact_is a.s.now a.bits a.family a.first a.count c.tuple_from-tuple.result c.tuple_from-tuple.ensures, refl, refl)
