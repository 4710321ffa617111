-- A test of the fact of a number, and of its struct: what the sets of facts are built by.
use mathlib.Core.Path.{◌≡◌, ap}
use mathlib.Core.Bool.{Bool}
use mathlib.Core.List.{[]}
use Prim.Native.Nat.{ℕ, ◌<◌}
use lib.ListN.{length, get_or}
use Rattle.records.specs.paper.Plan as paper
use Rattle.records.specs.code.Decoded.{fact_of, facts_of}
use Rattle.records.specs.declared.plan.Fact.{Fact}
use Rattle.records.specs.declared.plan.Facts.{Facts}
use Rattle.records.proofs.ListLaws.{get_d_front}

module _ (ok : paper.Fact → Bool) (x : Facts) where
  abbrev pub lets : ℕ → Bool
  lets f = ok (get_or (facts_of x) f (record { family = []; tuple = [] }))

  pub lets_fact : (k : ℕ) (d : Fact) → k < length (facts_of x) → lets k ≡ ok (fact_of (get_or x.items k d))
  lets_fact k d h = ap ok (get_d_front fact_of x.items x.count k d _ h)
