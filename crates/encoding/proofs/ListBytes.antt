-- A list of numbers as a field, by the array and the count that the code has.
use mathlib.Core.Path.{◌≡◌, refl, sym, ap, ◌∙◌}
use mathlib.Core.Bool.{Bool, true, cond}
use mathlib.Core.List.{List, [], ◌∷◌}
use Prim.Native.Nat.{ℕ, zero, suc, min}
use native.Mathlib.Omega.{arith}
use lib.ListN.{length, take, length-take}
use lib.Dec.{ltb}
use borrow.Author.Tests.{lt-ltb}
use Rattle.records.proofs.UsedLaws.{used_length, used_take}
use Rattle.encoding.specs.paper.Encoded.{some}
use Rattle.encoding.specs.code.Written.{list_bytes}

pub some-long : {A : Type 0} (xs : List A) → some xs ≡ ltb 0 (length xs)
some-long [] = refl
some-long (x ∷ xs) = sym (lt-ltb 0 (suc (length xs)) (omega arith))

-- the count alone says whether there is any
pub some_taken : (n : ℕ) (xs : List ℕ) → length xs ≡ 16 → some (take n xs) ≡ ltb 0 n
some_taken zero xs long = refl
some_taken (suc n) [] long = let z : length {A = ℕ} [] ≡ 0 = refl in absurd (omega arith)
some_taken (suc n) (x ∷ xs) long = sym (lt-ltb 0 (suc n) (omega arith))

module _ (xs : List ℕ) (count n : ℕ) (long : length xs ≡ 16) (few : n ≡ min count 16) where
  pub list-none : n ≡ 0 → list_bytes (take count xs) ≡ []
  list-none z = ap list_bytes (sym (used_take xs count 16 n long few) ∙ ap (λ (k : ℕ). take k xs) z)

  pub list-some : (n ≡ 0 → ⊥) → list_bytes (take count xs) ≡ n ∷ take n xs
  list-some z =
      ap list_bytes (sym taken) ∙ ap (λ (b : Bool). cond b (length (take n xs) ∷ take n xs) []) (some_taken n xs long ∙ lt-ltb 0 n (omega arith))
      ∙ ap (λ (k : ℕ). k ∷ take n xs) (ap length taken ∙ used_length xs count 16 n long few)
    where
      taken : take n xs ≡ take count xs
      taken = used_take xs count 16 n long few
