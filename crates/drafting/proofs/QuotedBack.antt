-- A text in quotes, as RFC 4180 writes it, is read back, where no CR and no LF in it is bare.
use mathlib.Core.Path.{◌≡◌, refl, ap, ◌∙◌}
use mathlib.Core.Bool.{Bool, true, false, cond}
use mathlib.Core.List.{List, [], ◌∷◌, ◌++◌, append_assoc}
use Prim.Native.Nat.{ℕ}
use native.Mathlib.Omega.{arith}
use lib.ListN.{get_or}
use lib.Dec.{eqb}
use borrow.Author.Tests.{eqb-true, not-true}
use Rattle.spreadsheet.specs.paper.Quoting.{text, push, quoted, field_of}
use Rattle.drafting.specs.promises.InQuotes.{doubled, in_quotes, nothing_bare}

closed : (rest : List ℕ) → eqb (get_or rest 0 0) 34 ≡ false → quoted 34 rest ≡ text [] rest
unfolding quoted
closed [] h = refl
closed (b ∷ rest) h = rw h

-- the byte behind p, where p is no quote
module _ (p : ℕ) (s : List ℕ) (e : eqb p 34 ≡ false) where
  feed-next : eqb p 13 ≡ true → quoted p (10 ∷ s) ≡ push 10 (quoted 10 s)
  unfolding quoted
  feed-next r = rw (e, r)

  quote_next : eqb p 13 ≡ false → quoted p (34 ∷ s) ≡ quoted 34 s
  unfolding quoted
  quote_next r = rw (e, r)

  other_next : (b : ℕ) → eqb p 13 ≡ false → eqb b 10 ≡ false → eqb b 34 ≡ false → quoted p (b ∷ s) ≡ push b (quoted b s)
  unfolding quoted
  other_next b r l q = rw (e, r, l, q)

two_quotes : (p : ℕ) (s : List ℕ) → eqb p 34 ≡ false → eqb p 13 ≡ false → quoted p (34 ∷ 34 ∷ s) ≡ push 34 (quoted 0 s)
unfolding quoted
two_quotes p s e r = quote_next p (34 ∷ s) e r

module _ (rest : List ℕ) (h : eqb (get_or rest 0 0) 34 ≡ false) where
  -- behind the byte p of the text
  back : (p : ℕ) (t : List ℕ) → eqb p 34 ≡ false → nothing_bare (eqb p 13) t ≡ true → quoted p (doubled t ++ (34 ∷ rest)) ≡ text t rest
  unfolding doubled nothing_bare
  back p [] e f = quote_next p rest e (not-true (eqb p 13) f) ∙ closed rest h
  back p (b ∷ t) e f = pick (eqb p 13) refl (eqb b 10) refl (eqb b 34) refl f (λ q. back q t)
    where
      pick : (x : Bool) → eqb p 13 ≡ x → (y : Bool) → eqb b 10 ≡ y → (z : Bool) → eqb b 34 ≡ z
          → cond x (cond y (nothing_bare false t) false) (cond y false (nothing_bare (eqb b 13) t)) ≡ true
          → ((q : ℕ) → eqb q 34 ≡ false → nothing_bare (eqb q 13) t ≡ true → quoted q (doubled t ++ (34 ∷ rest)) ≡ text t rest)
          → quoted p (cond z (34 ∷ 34 ∷ doubled t) (b ∷ doubled t) ++ (34 ∷ rest)) ≡ text (b ∷ t) rest
      pick true r true l true q g go = absurd (omega (arith, eqb-true b 10 l, eqb-true b 34 q))
      pick true r true l false q g go = rw (eqb-true b 10 l) (feed-next p (doubled t ++ (34 ∷ rest)) e r ∙ ap (push 10) (go 10 refl g))
      pick true r false l z q g go = absurd (let z : ◌≡◌ {A = ℕ} 0 1 = cc in omega arith)
      pick false r true l z q g go = absurd (let z : ◌≡◌ {A = ℕ} 0 1 = cc in omega arith)
      pick false r false l true q g go =
          rw (eqb-true b 34 q) (two_quotes p (doubled t ++ (34 ∷ rest)) e r ∙ ap (push 34) (go 0 refl (rw (eqb-true b 34 q) at g)))
      pick false r false l false q g go = other_next p (doubled t ++ (34 ∷ rest)) e b r l q ∙ ap (push b) (go b q g)

  -- a text in quotes, with anything behind it but a quote, is read as that text
  pub quoted_back : (t : List ℕ) → nothing_bare false t ≡ true → field_of (in_quotes t ++ rest) ≡ text t rest
  unfolding field_of in_quotes
  quoted_back t f = ap (quoted 0) (append_assoc (doubled t) (34 ∷ []) rest) ∙ back 0 t refl f
