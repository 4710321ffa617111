-- Text that is put into a lent buffer, byte after byte, as far as there is room.
use Rattle.std.specs.Prelude.{cond, List, [], ◌∷◌, ◌++◌, ℕ, ◌+◌, min, length, take, drop, set, ltb}

pub record Page : Type 0 where
  -- bytes put so far
  pub count : ℕ
  pub out : List ℕ

abbrev pub put_byte : Page → ℕ → Page
put_byte p b = cond (ltb p.count (length p.out)) (record { count = p.count + 1; out = set p.out p.count b }) p

unfoldable pub puts : Page → List ℕ → Page
puts p [] = p
puts p (b ∷ bs) = puts (put_byte p b) bs

-- a text at the start of a buffer: what does not fit is left out, what it does not reach stays
abbrev pub begun : List ℕ → List ℕ → Page
begun text out = record { count = min (length text) (length out); out = take (length out) text ++ drop (length text) out }
