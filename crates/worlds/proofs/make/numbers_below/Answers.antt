-- `make::numbers_below`: below 2 ^ n all digits are ones.
use mathlib.Core.Path.{◌≡◌, ap, ◌∙◌}
use Prim.Native.Nat.{ℕ, ◌-◌}
use native.Mathlib.Omega.{arith}
use lib.Dec.{ltb}
use Rattle.sets.specs.paper.Sets.{has}
use Rattle.sets.proofs.SetLaws.{shl_one}
use Rattle.worlds.proofs.RelateLaws.{has_pred}
use Rattle.worlds.proofs.make.numbers_below.Goals as goal

pub returns-then-n-ge64 : goal.returns-then-n-ge64
returns-then-n-ge64 c = λ h i. has_pred 64 i ∙ ap (ltb i) (let z : 64 ≡ c.args.n = omega arith in z)

pub returns-else-n-ge64 : goal.returns-else-n-ge64
returns-else-n-ge64 c = λ h i. ap (λ (x : ℕ). has (x - 1) i) (shl_one c.args.n (omega (arith, c.if-n-ge64.false))) ∙ has_pred c.args.n i
