-- Numbers as bytes. Document 01, "Plan record": "Integers are little-endian".
use Rattle.std.specs.Prelude.{List, [], ◌∷◌, ℕ, zero, suc, ◌/◌, ◌%◌}

-- n bytes of a number, the lowest first
unfoldable pub little_bytes : ℕ → ℕ → List ℕ
little_bytes zero m = []
little_bytes (suc n) m = m % 256 ∷ little_bytes n (m / 256)
