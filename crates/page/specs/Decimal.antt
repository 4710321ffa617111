-- Numbers in base ten, in ASCII, without leading zeros.
use Rattle.std.specs.Prelude.{cond, List, [], ◌∷◌, ◌++◌, ℕ, zero, suc, ◌+◌, ◌/◌, ◌%◌, ltb}

abbrev pub digit : ℕ → ℕ
digit d = 48 + d

-- with at most so many digits before the last
unfoldable pub decimal_with : ℕ → ℕ → List ℕ
decimal_with zero n = digit n ∷ []
decimal_with (suc k) n = cond (ltb n 10) (digit n ∷ []) (decimal_with k (n / 10) ++ (digit (n % 10) ∷ []))

-- a number has no more digits than its own value and one
unfoldable pub decimal : ℕ → List ℕ
decimal n = decimal_with n n
