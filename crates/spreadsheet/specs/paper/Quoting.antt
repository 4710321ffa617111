-- A field of a table by RFC 4180: its text, and the bytes behind it. Document 02, Ticket 2: "export it by RFC 4180".
use Rattle.std.specs.Prelude.{Bool, true, cond, List, [], ◌∷◌, ℕ, get_or, drop, eqb}

pub data Field : Type 0 where
  text : List ℕ → List ℕ → Field
  -- the quoting is broken
  broken : Field

-- a byte before the text
abbrev pub push : ℕ → Field → Field
push b (text t rest) = text (b ∷ t) rest
push b broken = broken

-- quote, CR and LF
unfoldable pub strange : ℕ → Bool
strange b = cond (eqb b 34) true (cond (eqb b 13) true (eqb b 10))

-- a comma, or one of those
unfoldable pub ends : ℕ → Bool
ends b = cond (eqb b 44) true (strange b)

-- "non-escaped": up to a comma, a quote or the row's end. What may stand there is for the row to say
unfoldable pub plain : List ℕ → Field
plain [] = text [] []
plain (b ∷ s) = cond (ends b) (text [] (b ∷ s)) (push b (plain s))

-- "escaped", behind the opening quote, p being the byte before (0 at first, and behind two quotes): up to the quote that closes; two quotes are
-- one. "a bare CR or LF breaks the quoting": LF stands behind CR and nowhere else, and CR before LF
unfoldable pub quoted : ℕ → List ℕ → Field
quoted p [] = cond (eqb p 34) (text [] []) broken
quoted p (b ∷ s) =
    cond (eqb p 34) (cond (eqb b 34) (push 34 (quoted 0 s)) (text [] (b ∷ s)))
    (cond (eqb p 13) (cond (eqb b 10) (push 10 (quoted 10 s)) broken)
    (cond (eqb b 10) broken (cond (eqb b 34) (quoted 34 s) (push b (quoted b s)))))

unfoldable pub field_of : List ℕ → Field
field_of s = cond (eqb (get_or s 0 0) 34) (quoted 0 (drop 1 s)) (plain s)
