-- The pass over the facts.
use mathlib.Core.Path.{◌≡◌}
use mathlib.Core.Bool.{true}
use Prim.Native.Nat.{◌-◌, ◌≤◌}
use lib.ListN.{length}
use Rattle.records.specs.paper.Plan.{facts_rise}
use Rattle.records.specs.code.Decoded.{fact_of, facts_of}
use Rattle.records.proofs.Passing.{Going}
use Rattle.records.proofs.FactLaws.{last_fact}
use Rattle.records.proofs.KindLaws.{fact_kind}
use Rattle.records.proofs.plan.reading.facts.read_facts.Given as goal

abbrev pub invariant-loop-here : goal.invariant-loop-here
invariant-loop-here l =
    (l.here.«record» ≤ l.here.at) × (l.facts.count ≤ 64) × (length l.facts.items ≡ 64) × Going fact_kind l.s l.from l.here.number l.here.«record» l.here.at (facts_of l.facts)
    × (facts_rise (facts_of l.facts) ≡ true) × (last_fact (facts_of l.facts) ≡ fact_of l.last) × (l.last.count ≤ 4) × (l.last.boolean ≡ true → l.last.count ≡ 0) × (l.here.headed ≡ l.from.headed)

abbrev pub decreases-loop-here : goal.decreases-loop-here
decreases-loop-here l = length l.s - l.here.at
