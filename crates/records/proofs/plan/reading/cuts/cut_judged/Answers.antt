-- Past one of two limits, then wrong bits or no heading, then an edge decided twice.
use Rattle.records.proofs.plan.reading.cuts.cut_judged.Goals as goal

pub returns : goal.returns
returns c = rw (← c.decided_once-once.ensures) c.judged_fully.ensures
