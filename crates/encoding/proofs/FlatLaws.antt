-- Laws of lists put together from one list for each entry.
use mathlib.Core.Path.{◌≡◌, refl, ap}
use mathlib.Core.List.{List, [], ◌∷◌, ◌++◌, map, flat_map}
use Prim.Native.Nat.{ℕ, ◌*◌, ◌≤◌, zero-le}
use native.Mathlib.Nat.{suc-mul}
use native.Mathlib.Omega.{arith}
use lib.ListN.{length, length-append}
use Rattle.sets.specs.paper.Sets.{All}

pub flat_map_lem : {A B C : Type 0} (f : B → List C) (g : A → B) (xs : List A) → flat_map (λ x. f (g x)) xs ≡ flat_map f (map g xs)
unfolding flat_map
flat_map_lem f g [] = refl
flat_map_lem f g (x ∷ xs) = ap (λ (t : List _). f (g x) ++ t) (flat_map_lem f g xs)

-- so much at most for each entry
pub flat_most : {A B : Type 0} (f : A → List B) (most : ℕ) (xs : List A) → All (λ x. length (f x) ≤ most) xs → length (flat_map f xs) ≤ length xs * most
unfolding flat_map
flat_most f most [] h = zero-le
flat_most f most (x ∷ xs) h =
    let a = length-append (f x) (flat_map f xs) in
    let b = flat_most f most xs h.1 in
    let e = suc-mul (length xs) most in
    omega (arith, h.0)
