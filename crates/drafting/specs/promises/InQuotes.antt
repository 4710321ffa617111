-- A text in quotes as RFC 4180 writes it: the words in which it is said that such a field is read back.
use Rattle.std.specs.Prelude.{Bool, false, not, cond, List, [], ◌∷◌, ◌++◌, ℕ, eqb}

-- each quote twice
unfoldable pub doubled : List ℕ → List ℕ
doubled [] = []
doubled (b ∷ t) = cond (eqb b 34) (34 ∷ 34 ∷ doubled t) (b ∷ doubled t)

unfoldable pub in_quotes : List ℕ → List ℕ
in_quotes t = 34 ∷ (doubled t ++ (34 ∷ []))

-- no CR and no LF is bare, where `return` says that CR stands before: LF stands behind CR and nowhere else, and CR before LF
unfoldable pub nothing_bare : Bool → List ℕ → Bool
nothing_bare return [] = not return
nothing_bare return (b ∷ t) = cond return (cond (eqb b 10) (nothing_bare false t) false) (cond (eqb b 10) false (nothing_bare (eqb b 13) t))
