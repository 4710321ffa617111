-- `observations::sights_of`: booleans, then relations, from nothing.
use mathlib.Core.Path.{sym, ap, ◌∙◌}
use mathlib.Core.List.{map}
use lib.ListN.{take}
use Rattle.records.specs.code.Decoded.{boolean_of, relation_of}
use Rattle.expressions.specs.declared.observations.Sight.{Sight}
use Rattle.expressions.specs.paper.Bindings.{observed_in_booleans, observed_in_relations}
use Rattle.expressions.specs.code.Sight.{nothing, look_all}
use Rattle.expressions.proofs.ListLaws.{filled_at}
use Rattle.expressions.proofs.SeenLaws.{look_append}
use Rattle.expressions.proofs.observations.sights_of.Goals as goal

pub returns : goal.returns
returns c = λ f h.
    let s = c.args in
    let bs = observed_in_booleans (map boolean_of (take s.booleans.count s.booleans.items)) f in
    let rs = observed_in_relations (map relation_of (take s.relations.count s.relations.items)) f in
    c.look_in_relations.ensures f h
    ∙ ap (λ (t : Sight). look_all t rs) (c.look_in_booleans.ensures f h ∙ ap (λ (t : Sight). look_all t bs) (filled_at 64 f nothing))
    ∙ sym (look_append nothing bs rs)
