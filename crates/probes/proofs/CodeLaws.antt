-- A code below 6 is the number of what it stands for; from 6 on it stands for a conflict of both.
use mathlib.Core.Path.{◌≡◌, refl, ap}
use Prim.Native.Nat.{ℕ, zero, suc, ◌≤◌, ◌<◌, ◌-◌}
use native.Mathlib.Omega.{arith}
use Rattle.expressions.specs.code.Codes.{bound_of}
use Rattle.probes.specs.Entries.{code_of}

pub code_below : (n : ℕ) → n < 6 → n ≡ code_of (bound_of n)
unfolding bound_of
code_below zero h = refl
code_below (suc zero) h = refl
code_below (suc (suc zero)) h = refl
code_below (suc (suc (suc zero))) h = refl
code_below (suc (suc (suc (suc zero)))) h = refl
code_below (suc (suc (suc (suc (suc zero))))) h = refl
code_below (suc (suc (suc (suc (suc (suc n)))))) h = absurd (omega arith)

pub code_from : (n : ℕ) → 6 ≤ n → 6 ≡ code_of (bound_of n)
unfolding bound_of
code_from n h = let e : suc (suc (suc (suc (suc (suc (n - 6)))))) ≡ n = omega arith in ap (λ (k : ℕ). code_of (bound_of k)) e
