-- A number in a field. Document 02, Ticket 2: "Numbers are written in base ten without leading zeros".
use Rattle.std.specs.Prelude.{Bool, true, false, not, cond, List, [], ◌∷◌, ℕ, ◌+◌, ◌*◌, ◌-◌, eqb, leb}

-- "base ten": 0 to 9 are the bytes 48 to 57
unfoldable pub digits : List ℕ → Bool
digits [] = true
digits (b ∷ bs) = cond (leb 48 b) (cond (leb b 57) (digits bs) false) false

-- the digits behind a number n
unfoldable pub value_from : ℕ → List ℕ → ℕ
value_from n [] = n
value_from n (b ∷ bs) = value_from (10 * n + (b - 48)) bs

-- "without leading zeros": one digit, or more that begin with no 0
abbrev pub leads : List ℕ → Bool
leads [] = false
leads (b ∷ []) = true
leads (b ∷ c ∷ bs) = not (eqb b 48)

pub data Number : Type 0 where
  is : ℕ → Number
  none : Number

-- digits behind n that make a number up to `top`
unfoldable pub decimal_from : ℕ → ℕ → List ℕ → Number
decimal_from top n t = cond (digits t) (cond (leb (value_from n t) top) (is (value_from n t)) none) none

-- a number up to `top`
unfoldable pub number_of : ℕ → List ℕ → Number
number_of top t = cond (leads t) (decimal_from top 0 t) none

abbrev pub on_number : {A : Type 0} → Number → (ℕ → A) → A → A
on_number (is n) f b = f n
on_number none f b = b
