-- `circle::joins_of`: rules, then facts, then decisions.
use mathlib.Core.List.{append_assoc}
use native.Mathlib.Omega.{arith}
use lib.ListN.{take}
use Rattle.expressions.specs.code.Joined.{joins_of}
use Rattle.records.proofs.UsedLaws.{used_take}
use Rattle.expressions.proofs.ListLaws.{front_below}
use Rattle.expressions.proofs.circle.joins_of.Goals as goal

pub returns : goal.returns
unfolding joins_of
returns c =
    let a = c.args in
    let groups = used_take a.groups.sets a.groups.count 144 c.min.result (omega (arith, c.well_formed)) c.min.ensures in
    let facts = front_below 0 a.facts a.count (omega (arith, c.well_formed)) in
    let decisions = front_below 0 a.decisions a.undecided (omega (arith, c.well_formed)) in
    rw (c.append.ensures.1, c.append-with_facts.ensures.1, c.append-rules.ensures.1, append_assoc (take c.min.result a.groups.sets) (take a.count a.facts) (take a.undecided a.decisions), groups, facts, decisions)
