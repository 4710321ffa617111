-- A loop over the facts that gathers the boolean ones.
use mathlib.Core.Path.{◌≡◌}
use Prim.Native.Nat.{◌≤◌, ◌-◌}
use lib.ListN.{length}
use Rattle.records.specs.paper.Plan as paper
use Rattle.records.specs.code.Decoded.{facts_of}
use Rattle.sets.proofs.MaskLaws.{built}
use Rattle.records.proofs.MarkLaws.{lets}
use Rattle.records.proofs.plan.checks.naming.boolean_facts.Given as goal

abbrev pub invariant-loop-k : goal.invariant-loop-k
invariant-loop-k l = (l.k ≤ l.count) × (l.count ≤ 64) × (l.count ≡ length (facts_of l.facts)) × (l.m ≡ built (lets paper.is_boolean l.facts) l.k)
