-- `open::open_case`: what the parts find is what stands before the worlds are looked at.
use Rattle.report.proofs.OpenLaws.{persons-fit, opens}
use Rattle.report.proofs.open.open_case.Goals as goal

pub rule_persons-persons-requires : goal.rule_persons-persons-requires
rule_persons-persons-requires c = persons-fit c.args.plan c.args.case c.requires.0 c.requires.1

pub returns : goal.returns
returns c =
    opens c.args.plan c.args.case c.requires.0 c.requires.1 c.reach_of-reach.result c.reach_of-reach.ensures c.rule_persons-persons.result c.rule_persons-persons.ensures
    c.args.room c.heading_fault-fault.result c.heading_fault-fault.ensures c.bindable-found.result c.bindable-found.ensures
    c.bind_facts-bound.result c.bind_facts-bound.ensures c.count_worlds-count.result c.count_worlds-count.ensures c.stop_of-stop.result c.stop_of-stop.ensures
