-- Just one bit: the count of ones.
use mathlib.Core.Path.{◌∙◌, ap}
use Prim.Native.Nat.{ℕ}
use native.Mathlib.Omega.{arith}
use lib.Dec.{eqb}
use Rattle.sets.specs.paper.Sets.{size}
use Rattle.sets.proofs.SetLaws.{ones-size}
use Rattle.records.proofs.plan.reading.nodes.one_bit.Goals as goal

pub returns : goal.returns
returns c = ap (λ (x : ℕ). eqb x 1) (ones-size c.from.result (omega (arith, c.from.ensures)) ∙ ap size c.from.ensures)
