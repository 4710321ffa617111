-- The entries in use of an array, gone through by a loop: what is left from an index on.
use Prim.Native.Nat.{ℕ, ◌+◌, ◌≤◌, ◌<◌, min}
use mathlib.Core.Path.{◌≡◌, refl, sym, ap, ◌∙◌, subst}
use mathlib.Core.List.{append_assoc, List, [], ◌∷◌, ◌++◌, flat_map}
use native.Mathlib.Numerals.{add-one}
use native.Mathlib.Omega.{arith}
use lib.ListN.{length, get_or, take, drop, length-take, drop_of_length-le}
use lib.Seq.{drop-cons, get_or-take}
use Rattle.sets.specs.paper.Sets.{All}
use Rattle.sets.proofs.LoopLaws.{all_at}
use Rattle.records.proofs.ListLaws.{take_min}

-- what is left of a list, in the code's i + 1
pub rest-next : {A : Type 0} (xs : List A) (i : ℕ) (d : A) → i < length xs → drop i xs ≡ get_or xs i d ∷ drop (i + 1) xs
rest-next xs i d h = drop-cons xs i d h ∙ ap (λ (k : ℕ). get_or xs i d ∷ drop k xs) (sym (add-one i))

-- ---- the entries in use: n of them, as many as the count says and no more than there are

module _ {A : Type 0} (xs : List A) (count most n : ℕ) (long : length xs ≡ most) (some : n ≡ min count most) where
  pub used_length : length (take count xs) ≡ n
  used_length = length-take count xs ∙ ap (min count) long ∙ sym some

  pub used_at_lem : (i : ℕ) (d : A) → i < n → get_or (take count xs) i d ≡ get_or xs i d
  used_at_lem i d h = get_or-take count xs i d (omega arith)

  -- what holds of each
  pub used_each : (Q : A → Type 0) (i : ℕ) (d : A) → i < n → All Q (take count xs) → Q (get_or xs i d)
  used_each Q i d h q = let l = used_length in subst Q (used_at_lem i d h) (all_at Q (take count xs) d i q (omega arith))

  -- one entry more, at the code's i + 1
  pub used_next : (i : ℕ) (d k : A) → i < n → k ≡ get_or xs i d → drop i (take count xs) ≡ k ∷ drop (i + 1) (take count xs)
  used_next i d k h e =
      let l = used_length in
      rest-next (take count xs) i d (omega arith) ∙ ap (λ (x : A). x ∷ drop (i + 1) (take count xs)) (used_at_lem i d h ∙ sym e)

  pub used_end : (i : ℕ) → n ≤ i → drop i (take count xs) ≡ []
  used_end i h = let l = used_length in let k : length (take count xs) ≤ i = omega arith in drop_of_length-le (take count xs) k

  pub used_take : take n xs ≡ take count xs
  used_take = ap (λ (k : ℕ). take k xs) some ∙ take_min count most xs long

-- ---- what is made of each, one behind the other

pub flat_append : {A B : Type 0} (f : A → List B) (xs ys : List A) → flat_map f (xs ++ ys) ≡ flat_map f xs ++ flat_map f ys
unfolding flat_map
flat_append f [] ys = refl
flat_append f (x ∷ xs) ys = ap (λ (l : List _). f x ++ l) (flat_append f xs ys) ∙ sym (append_assoc (f x) (flat_map f xs) (flat_map f ys))
