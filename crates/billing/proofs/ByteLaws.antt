-- Bytes from a place on.
use mathlib.Core.Path.{◌≡◌, refl, ap, ◌∙◌}
use mathlib.Core.List.{List, ◌∷◌}
use Prim.Native.Nat.{ℕ, zero, suc, ◌+◌, ◌≤◌}
use native.Mathlib.Omega.{arith}
use lib.ListN.{length, get_or, take, drop}
use lib.Seq.{drop-cons}
use Rattle.records.specs.code.Readers.{bytes_from}

pub bytes_taken : (s : List ℕ) (j n : ℕ) → j + n ≤ length s → bytes_from s j n ≡ take n (drop j s)
unfolding bytes_from
bytes_taken s j zero h = refl
bytes_taken s j (suc n) h =
    let e : j + 1 ≡ suc j = omega arith in
    rw (drop-cons s j 0 (omega arith)) (ap (λ (l : List ℕ). get_or s j 0 ∷ l) (bytes_taken s (j + 1) n (omega arith) ∙ ap (λ (i : ℕ). take n (drop i s)) e))
