-- A loop over the facts that gathers those that a relation record may name.
use mathlib.Core.Path.{◌≡◌}
use Prim.Native.Nat.{◌≤◌, ◌-◌}
use lib.ListN.{length}
use Rattle.records.specs.code.Decoded.{facts_of, families_of}
use Rattle.records.proofs.CaseFaults.{related}
use Rattle.sets.proofs.MaskLaws.{built}
use Rattle.records.proofs.MarkLaws.{lets}
use Rattle.records.proofs.case.naming.relation_facts.Given as goal

abbrev pub invariant-loop-k : goal.invariant-loop-k
invariant-loop-k l = (l.k ≤ l.count) × (l.count ≤ 64) × (l.count ≡ length (facts_of l.facts)) × (l.m ≡ built (lets (related (families_of l.families)) l.facts) l.k)
