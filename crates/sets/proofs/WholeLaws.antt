-- An array of arrays, by what is told of its elements on entry.
use mathlib.Core.Path.{◌≡◌}
use mathlib.Core.List.{List, [], ◌∷◌}
use Prim.Native.Nat.{ℕ, zero, suc, ◌<◌}
use native.Mathlib.Nat.{le_of_suc-le-suc}
use native.Mathlib.Omega.{arith}
use lib.ListN.{length, get_or}
use mir.Val.{Val}
use base.Fml.{Fml}
use denote.Shadow.{shadow}
use denote.Array.{each, in_array}

pub rows_long : {A : Type 0} (f : A → List Val → Fml) (n : ℕ) (xs : List (List A)) (us : List Val) → shadow (each (List A) (in_array A f n) xs us)
    → (k : ℕ) → k < length xs → length (get_or xs k []) ≡ n
rows_long f n [] us s k h = absurd (omega arith)
rows_long f n (x ∷ xs) [] s k h = absurd s
rows_long f n (x ∷ xs) (u ∷ us) s zero h = s.0.1.0.1
rows_long f n (x ∷ xs) (u ∷ us) s (suc k) h = rows_long f n xs us s.1 k (le_of_suc-le-suc h)
