-- The order of facts, and a fact more at its end.
use mathlib.Core.Path.{◌≡◌, refl, sym, ap, ◌∙◌}
use mathlib.Core.Bool.{Bool, true, false, ◌&&◌, not, cond}
use mathlib.Core.List.{List, [], ◌∷◌, ◌++◌}
use Prim.Native.Nat.{ℕ, zero, suc, ◌+◌, ◌≤◌, ◌<◌}
use native.Mathlib.Nat.{not-suc-le-zero, le_of_suc-le-suc}
use native.Mathlib.Numerals.{add-one}
use native.Mathlib.Omega.{arith}
use lib.ListN.{length, get_or, take, drop}
use lib.Dec.{eqb, ltb}
use borrow.Author.Tests.{eq-eqb, ne_eqb}
use Rattle.sets.specs.paper.Sets.{lex_less}
use Rattle.records.specs.paper.Plan.{Fact, is_boolean, rises, facts_rise}
use Rattle.records.specs.code.Decoded.{if_given}

-- ---- both of two tests

pub and-true : (t : Bool) → (t && true) ≡ t
and-true true = refl
and-true false = refl

pub and_assoc : (a b c : Bool) → (a && (b && c)) ≡ ((a && b) && c)
and_assoc true b c = refl
and_assoc false b c = refl

-- ---- the first m entries from place i on

drop-cons : (xs : List ℕ) (m i : ℕ) → i < m → m ≤ length xs → drop i (take m xs) ≡ get_or xs i 0 ∷ drop (suc i) (take m xs)
drop-cons [] m i h l = absurd (omega arith)
drop-cons (x ∷ xs) zero i h l = absurd (not-suc-le-zero h)
drop-cons (x ∷ xs) (suc m) zero h l = refl
drop-cons (x ∷ xs) (suc m) (suc i) h l = drop-cons xs m i (le_of_suc-le-suc h) (le_of_suc-le-suc l)

drop-none : (xs : List ℕ) (m i : ℕ) → m ≤ i → drop i (take m xs) ≡ []
drop-none [] zero zero h = refl
drop-none [] zero (suc i) h = refl
drop-none [] (suc m) zero h = refl
drop-none [] (suc m) (suc i) h = refl
drop-none (x ∷ xs) zero zero h = refl
drop-none (x ∷ xs) zero (suc i) h = refl
drop-none (x ∷ xs) (suc m) zero h = absurd (not-suc-le-zero h)
drop-none (x ∷ xs) (suc m) (suc i) h = drop-none xs m i (le_of_suc-le-suc h)

-- ---- comparing from place i on

module _ (a b : List ℕ) (m n i : ℕ) (la : m ≤ length a) (lb : n ≤ length b) where
  pub lex_short : i < m → n ≤ i → false ≡ lex_less (drop i (take m a)) (drop i (take n b))
  unfolding lex_less
  lex_short h k = rw (drop-cons a m i h la, drop-none b n i k)

  pub lex_differ : i < m → i < n → (get_or a i 0 ≡ get_or b i 0 → ⊥) → ltb (get_or a i 0) (get_or b i 0) ≡ lex_less (drop i (take m a)) (drop i (take n b))
  unfolding lex_less
  lex_differ h k e = rw (drop-cons a m i h la, drop-cons b n i k lb, ne_eqb (get_or a i 0) (get_or b i 0) e)

  pub lex_same : i < m → i < n → get_or a i 0 ≡ get_or b i 0 → lex_less (drop (i + 1) (take m a)) (drop (i + 1) (take n b)) ≡ lex_less (drop i (take m a)) (drop i (take n b))
  unfolding lex_less
  lex_same h k e = rw (add-one i, drop-cons a m i h la, drop-cons b n i k lb, eq-eqb (get_or a i 0) (get_or b i 0) e)

  pub lex_end : m ≡ i → i ≤ n → ltb m n ≡ lex_less (drop i (take m a)) (drop i (take n b))
  unfolding lex_less
  lex_end h k = pick (ltb m n) refl
    where
      pick : (t : Bool) → ltb m n ≡ t → ltb m n ≡ lex_less (drop i (take m a)) (drop i (take n b))
      pick true e = let l = borrow.Author.Tests.ltb-true m n e in rw (e, drop-none a m i (omega (arith, h)), drop-cons b n i (omega (arith, h, l)) lb)
      pick false e = let l = borrow.Author.Tests.ltb-false m n e in rw (e, drop-none a m i (omega (arith, h)), drop-none b n i (omega (arith, h, l)))

-- ---- a fact more

abbrev pub no_fact : Fact
no_fact = record { family = []; tuple = [] }

pub last_fact : List Fact → Fact
last_fact [] = no_fact
last_fact (f ∷ []) = f
last_fact (f ∷ g ∷ fs) = last_fact (g ∷ fs)

pub last_none : last_fact [] ≡ no_fact
unfolding last_fact
last_none = refl

pub last_more : (xs : List Fact) (x : Fact) → last_fact (xs ++ (x ∷ [])) ≡ x
unfolding last_fact
last_more [] x = refl
last_more (f ∷ []) x = refl
last_more (f ∷ g ∷ fs) x = last_more (g ∷ fs) x

-- the first fact rises after none
first-rises : (x : Fact) → rises no_fact x ≡ true
unfolding rises is_boolean lex_less
first-rises x = pick x.family
  where
    pick : (fs : List ℕ) → cond (eqb (length fs) 0) true (lex_less [] (fs ++ x.tuple)) ≡ true
    pick [] = refl
    pick (f ∷ fs) = rw (lib.Dec.eqb-suc-zero (length fs))

pub rise-more : (xs : List Fact) (x : Fact) → facts_rise (xs ++ (x ∷ [])) ≡ (facts_rise xs && rises (last_fact xs) x)
unfolding facts_rise last_fact
rise-more [] x = sym (first-rises x)
rise-more (f ∷ []) x = and-true (rises f x)
rise-more (f ∷ g ∷ fs) x = ap (λ (t : Bool). rises f g && t) (rise-more (g ∷ fs) x) ∙ and_assoc (rises f g) (facts_rise (g ∷ fs)) (rises (last_fact (g ∷ fs)) x)

-- a fact has no family just if it is boolean
pub is_boolean_lem : (t : Bool) (x : ℕ) → eqb (length (if_given (not t) x)) 0 ≡ t
is_boolean_lem true x = refl
is_boolean_lem false x = refl
