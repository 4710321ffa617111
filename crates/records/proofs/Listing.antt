-- Copying the entries of a list out of the bytes, one after another.
use mathlib.Core.Path.{◌≡◌, refl, sym, ap, ap₂, ◌∙◌}
use mathlib.Core.List.{List, [], ◌∷◌, ◌++◌, map}
use Prim.Native.Nat.{ℕ, zero, suc, ◌+◌, ◌*◌, ◌<◌}
use native.Mathlib.Numerals.{add-one}
use native.Mathlib.Omega.{arith}
use lib.ListN.{length, get_or, set, take}
use lib.Seq.{take-suc-set, get_or-set_same, get_or-set_other}
use Rattle.sets.specs.paper.Sets.{numbers, below}
use Rattle.records.specs.paper.Plan.{Decision, decisions_from}
use Rattle.records.specs.code.Readers.{bytes_from}

pub span_more : (s : List ℕ) (at n : ℕ) → bytes_from s at (n + 1) ≡ bytes_from s at n ++ (get_or s (at + n) 0 ∷ [])
unfolding bytes_from
span_more s at n = rw (add-one n) (step at n)
  where
    step : (at n : ℕ) → bytes_from s at (suc n) ≡ bytes_from s at n ++ (get_or s (at + n) 0 ∷ [])
    step at zero = ap (λ (x : ℕ). get_or s x 0 ∷ []) (omega arith)
    step at (suc n) = ap (λ (xs : List ℕ). get_or s at 0 ∷ xs) (step (at + 1) n ∙ ap (λ (x : ℕ). bytes_from s (at + 1) n ++ (get_or s x 0 ∷ [])) (omega arith))

-- one more entry is copied
pub copied : (s xs : List ℕ) (at i : ℕ) → i < length xs → take i xs ≡ bytes_from s at i → take (i + 1) (set xs i (get_or s (at + i) 0)) ≡ bytes_from s at (i + 1)
copied s xs at i h e = ap (λ (k : ℕ). take k (set xs i (get_or s (at + i) 0))) (add-one i) ∙ take-suc-set xs i (get_or s (at + i) 0) h ∙ ap (λ (ys : List ℕ). ys ++ (get_or s (at + i) 0 ∷ [])) e ∙ sym (span_more s at i)

-- ---- f 0 … f (n − 1), one more, and for an equal f

numbers-suc : (n k : ℕ) → numbers (suc n) k ≡ numbers n k ++ ((k + n) ∷ [])
unfolding numbers
numbers-suc zero k = ap (λ (x : ℕ). x ∷ []) (omega arith)
numbers-suc (suc n) k = ap (λ (xs : List ℕ). k ∷ xs) (numbers-suc n (suc k) ∙ ap (λ (x : ℕ). numbers n (suc k) ++ (x ∷ [])) (omega arith))

-- the image of a list with one more
pub map_more : {A B : Type 0} (f : A → B) (xs : List A) (x : A) → map f (xs ++ (x ∷ [])) ≡ map f xs ++ (f x ∷ [])
map_more f [] x = refl
map_more f (y ∷ ys) x = ap (λ zs. f y ∷ zs) (map_more f ys x)

pub below_more : {A : Type 0} (n : ℕ) (f : ℕ → A) → below (n + 1) f ≡ below n f ++ (f n ∷ [])
unfolding below
below_more n f = ap (λ (k : ℕ). map f (numbers k 0)) (add-one n) ∙ ap (map f) (numbers-suc n 0) ∙ map_more f (numbers n 0) (0 + n) ∙ ap (λ (x : ℕ). map f (numbers n 0) ++ (f x ∷ [])) (omega arith)

numbers_ext : {A : Type 0} (f g : ℕ → A) (n k : ℕ) → ((i : ℕ) → i < k + n → f i ≡ g i) → map f (numbers n k) ≡ map g (numbers n k)
unfolding numbers
numbers_ext f g zero k h = refl
numbers_ext f g (suc n) k h = ap₂ ◌∷◌ (h k (omega arith)) (numbers_ext f g n (suc k) (λ i l. h i (omega arith)))

pub below_ext : {A : Type 0} (n : ℕ) (f g : ℕ → A) → ((i : ℕ) → i < n → f i ≡ g i) → below n f ≡ below n g
unfolding below
below_ext n f g h = numbers_ext f g n 0 (λ i l. h i (omega arith))

-- ---- pairs

decisions-more : (s : List ℕ) (at n m : ℕ) → m ≡ n * 2 → decisions_from (bytes_from s at (suc (suc m))) ≡ decisions_from (bytes_from s at m) ++ (record { edge = get_or s (at + m) 0; verdict = get_or s (at + m + 1) 0 } ∷ [])
unfolding decisions_from bytes_from
decisions-more s at zero zero e = ap₂ (λ (x y : ℕ). record { edge = get_or s x 0; verdict = get_or s y 0 } ∷ []) (omega arith) (omega arith)
decisions-more s at zero (suc m) e = absurd (omega (arith, e))
decisions-more s at (suc n) zero e = absurd (omega (arith, e))
decisions-more s at (suc n) (suc zero) e = absurd (omega (arith, e))
decisions-more s at (suc n) (suc (suc m)) e =
    ap (λ (ds : List Decision). record { edge = get_or s at 0; verdict = get_or s (at + 1) 0 } ∷ ds)
    (decisions-more s (at + 1 + 1) n m (omega (arith, e)) ∙ ap₂ (λ (x y : ℕ). decisions_from (bytes_from s (at + 1 + 1) m) ++ (record { edge = get_or s x 0; verdict = get_or s y 0 } ∷ [])) (omega arith) (omega arith))

abbrev pub decided : List ℕ → List ℕ → ℕ → Decision
decided es vs i = record { edge = get_or es i 0; verdict = get_or vs i 0 }

-- one more pair is copied
pub pair_copied : (s es vs : List ℕ) (at i : ℕ) → i < length es → i < length vs → below i (decided es vs) ≡ decisions_from (bytes_from s at (i * 2))
    → below (i + 1) (decided (set es i (get_or s (at + i * 2) 0)) (set vs i (get_or s (at + i * 2 + 1) 0))) ≡ decisions_from (bytes_from s at ((i + 1) * 2))
pair_copied s es vs at i h l e =
    let x = get_or s (at + i * 2) 0 in
    let y = get_or s (at + i * 2 + 1) 0 in
    let f = decided (set es i x) (set vs i y) in
    let n : suc (suc (i * 2)) ≡ (i + 1) * 2 = omega arith in
    below_more i f
    ∙ ap₂ (λ (ds : List Decision) (d : Decision). ds ++ (d ∷ []))
    (below_ext i f (decided es vs) (λ j k. ap₂ (λ (a b : ℕ). record { edge = a; verdict = b }) (get_or-set_other es i j x 0 (λ q. omega (arith, q))) (get_or-set_other vs i j y 0 (λ q. omega (arith, q)))) ∙ e)
    (ap₂ (λ (a b : ℕ). record { edge = a; verdict = b }) (get_or-set_same es i x 0 h) (get_or-set_same vs i y 0 l))
    ∙ sym (decisions-more s at i (i * 2) refl) ∙ ap (λ (k : ℕ). decisions_from (bytes_from s at k)) n
