-- Buffers of zeros.
use mathlib.Core.Path.{◌≡◌, refl, sym, ap, ◌∙◌}
use mathlib.Core.List.{List, ◌++◌}
use Prim.Native.Nat.{ℕ, zero, suc, ◌-◌, ◌≤◌}
use native.Mathlib.Omega.{arith}
use lib.ListN.{length, drop, replicate, length-append, length-drop, length-replicate}

-- a buffer whose first n bytes are zero is as long as it was
pub cleared_long : (n : ℕ) (d : List ℕ) → n ≤ length d → length (replicate n 0 ++ drop n d) ≡ length d
cleared_long n d h = simp (length-append, length-replicate, length-drop) (omega arith)

pub zeros-long : (l : List ℕ) (n : ℕ) → l ≡ replicate n 0 → length l ≡ n
zeros-long l n z = ap length z ∙ length-replicate n 0

pub zeros_all : (l : List ℕ) (n : ℕ) → l ≡ replicate n 0 → l ≡ replicate (length l) 0
zeros_all l n z = z ∙ ap (λ (k : ℕ). replicate {A = ℕ} k 0) (sym (zeros-long l n z))

-- what is left behind the first k
pub zeros-drop : (n k : ℕ) → drop k (replicate {A = ℕ} n 0) ≡ replicate (n - k) 0
zeros-drop zero zero = refl
zeros-drop zero (suc k) = ap (λ (j : ℕ). replicate {A = ℕ} j 0) (let z : 0 ≡ 0 - suc k = omega arith in z)
zeros-drop (suc n) zero = ap (λ (j : ℕ). replicate {A = ℕ} j 0) (let z : suc n ≡ suc n - 0 = omega arith in z)
zeros-drop (suc n) (suc k) = zeros-drop n k ∙ ap (λ (j : ℕ). replicate {A = ℕ} j 0) (let z : n - k ≡ suc n - suc k = omega arith in z)
