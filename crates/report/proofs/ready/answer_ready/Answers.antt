-- `ready::answer_ready`: what is kept of the wanted worlds makes the answer.
use Rattle.report.proofs.FreeLaws.{zeros-small}
use Rattle.report.proofs.ReadyLaws.{rows-clean, tables_ready, facts-few, decisions-few, booleans-fit, order_is, order-fits, sets_are, spans_told, stands, ends, answers}
use Rattle.report.proofs.ready.answer_ready.Goals as goal

pub influence_sets-influence-requires : goal.influence_sets-influence-requires
influence_sets-influence-requires c = (facts-few c.requires, decisions-few c.requires)

pub lay_tables-requires : goal.lay_tables-requires
lay_tables-requires c = tables_ready c.requires

pub common_of-common-requires : goal.common_of-common-requires
common_of-common-requires c = c.requires.sound

pub variable_order-order-requires : goal.variable_order-order-requires
variable_order-order-requires c = (booleans-fit c.requires c.boolean_count.ensures.0, facts-few c.requires, decisions-few c.requires)

pub free_variables-n-requires : goal.free_variables-n-requires
free_variables-n-requires c = (order-fits c.requires c.boolean_count.ensures.0 c.variable_order-order.result c.variable_order-order.ensures, zeros-small 16)

pub spans_of-spans-requires : goal.spans_of-spans-requires
spans_of-spans-requires c = (facts-few c.requires, c.free_variables-n.ensures.few)

pub run-walked-requires : goal.run-walked-requires
run-walked-requires c = (c.requires.textual, c.free_variables-n.ensures.few, c.free_variables-n.ensures.small)

-- ---- once the worlds are looked at

-- the sets of influence are those of the bindings, the tables stand for the case, and the order is document 01's
pub finish-requires : goal.finish-requires
finish-requires c =
    let h = c.requires in
    let v = c.variables_of in
    let i = c.influence_sets-influence in
    let influenced = sets_are h v.result v.ensures i.result i.ensures in
    let standing = stands h v.result v.ensures i.result i.ensures c.lay_tables.ensures c.common_of-common.ensures in
    let ordered = order_is h c.boolean_count.ensures.0 c.variable_order-order.result c.variable_order-order.ensures in
    ends h standing c.common_of-common.ensures.people ordered c.free_variables-n.ensures
    (spans_told h i.result influenced c.spans_of-spans.ensures) c.run-walked.ensures c.started.ensures (rows-clean 3 64)
    influenced c.concerns-opens.ensures

pub returns : goal.returns
returns c =
    let h = c.requires in
    let v = c.variables_of in
    let i = c.influence_sets-influence in
    let influenced = sets_are h v.result v.ensures i.result i.ensures in
    let standing = stands h v.result v.ensures i.result i.ensures c.lay_tables.ensures c.common_of-common.ensures in
    let ordered = order_is h c.boolean_count.ensures.0 c.variable_order-order.result c.variable_order-order.ensures in
    answers h standing c.common_of-common.ensures.people ordered c.free_variables-n.ensures
    (spans_told h i.result influenced c.spans_of-spans.ensures) c.run-walked.ensures c.started.ensures (rows-clean 3 64)
    influenced c.concerns-opens.ensures c.finish.ensures
