-- A test that each entry of a list passes holds of all.
use mathlib.Core.Path.{◌≡◌, refl, ap₂}
use mathlib.Core.Bool.{Bool, true, ◌&&◌}
use mathlib.Core.List.{List, [], ◌∷◌}
use Rattle.sets.specs.paper.Sets.{all_of, All}

pub each_test : {A : Type 0} (f : A → Bool) (xs : List A) → All (λ x. f x ≡ true) xs → all_of f xs ≡ true
unfolding all_of
each_test f [] h = refl
each_test f (x ∷ xs) h = ap₂ (λ (a b : Bool). a && b) h.0 (each_test f xs h.1)
