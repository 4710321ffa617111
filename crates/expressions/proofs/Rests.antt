-- What is left of a list from its entry i on: one entry and the rest, or nothing.
use mathlib.Core.Path.{◌≡◌, refl, ap, ◌∙◌}
use mathlib.Core.List.{List, [], ◌∷◌, map}
use Prim.Native.Nat.{ℕ, ◌+◌, ◌≤◌, ◌<◌, min}
use native.Mathlib.Omega.{arith}
use lib.ListN.{length, get_or, take, drop, drop_of_length-le}
use Rattle.sets.specs.paper.Sets.{below}
use Rattle.sets.proofs.LoopLaws.{length-below, get_or-below}
use Rattle.records.proofs.ListLaws.{length_front, get_d_front}
use Rattle.records.proofs.UsedLaws.{rest-next}

-- of a list made from the first n of another
pub made-next : {A B : Type 0} (g : A → B) (xs : List A) (n i : ℕ) (d : A) → i < min n (length xs)
    → drop i (map g (take n xs)) ≡ g (get_or xs i d) ∷ drop (i + 1) (map g (take n xs))
made-next g xs n i d h =
    let e = length_front g xs n (length xs) refl in
    rest-next (map g (take n xs)) i (g d) (omega arith) ∙ ap (λ x. x ∷ drop (i + 1) (map g (take n xs))) (get_d_front g xs n i d (g d) (omega arith))

pub made_none : {A B : Type 0} (g : A → B) (xs : List A) (n i : ℕ) → min n (length xs) ≤ i → drop i (map g (take n xs)) ≡ []
made_none g xs n i h = let e = length_front g xs n (length xs) refl in drop_of_length-le (map g (take n xs)) {i = i} (omega arith)

-- of f 0 … f (n − 1)
pub below_next : {A : Type 0} (n : ℕ) (f : ℕ → A) (i : ℕ) → i < n → drop i (below n f) ≡ f i ∷ drop (i + 1) (below n f)
below_next n f i h =
    let e = length-below n f in
    rest-next (below n f) i (f 0) (omega arith) ∙ ap (λ x. x ∷ drop (i + 1) (below n f)) (get_or-below n f (f 0) i h)

pub below_none : {A : Type 0} (n : ℕ) (f : ℕ → A) (i : ℕ) → n ≤ i → drop i (below n f) ≡ []
below_none n f i h = let e = length-below n f in drop_of_length-le (below n f) {i = i} (omega arith)
