-- Laws of the loops below a number, and of lists that are made from others.
use mathlib.Core.Path.{◌≡◌, refl, sym, ap, ◌∙◌, subst}
use mathlib.Core.List.{List, [], ◌∷◌, ◌++◌, map}
use Prim.Native.Nat.{ℕ, zero, suc, ◌+◌, ◌≤◌, ◌<◌}
use native.Mathlib.Nat.{le_of_suc-le-suc, not-suc-le-zero}
use native.Mathlib.Omega.{arith}
use lib.ListN.{length, get_or, take, length-map, get_or-eq_default}
use Rattle.sets.specs.paper.Sets.{numbers, below, All}

-- ---- f 0 … f (n − 1)

length-numbers : (n k : ℕ) → length (numbers n k) ≡ n
unfolding numbers
length-numbers zero k = refl
length-numbers (suc n) k = ap suc (length-numbers n (suc k))

pub length-below : {A : Type 0} (n : ℕ) (f : ℕ → A) → length (below n f) ≡ n
unfolding below
length-below n f = length-map (numbers n 0) f ∙ length-numbers n 0

get_or-numbers : {A : Type 0} (f : ℕ → A) (d : A) (n k i : ℕ) → i < n → get_or (map f (numbers n k)) i d ≡ f (k + i)
unfolding numbers
get_or-numbers f d zero k i h = absurd (not-suc-le-zero h)
get_or-numbers f d (suc n) k zero h = ap f (omega arith)
get_or-numbers f d (suc n) k (suc i) h = get_or-numbers f d n (suc k) i (le_of_suc-le-suc h) ∙ ap f (omega arith)

pub get_or-below : {A : Type 0} (n : ℕ) (f : ℕ → A) (d : A) (i : ℕ) → i < n → get_or (below n f) i d ≡ f i
unfolding below
get_or-below n f d i h = get_or-numbers f d n 0 i h ∙ ap f (omega arith)

pub get_d_past : {A : Type 0} (n : ℕ) (f : ℕ → A) (d : A) (i : ℕ) → n ≤ i → get_or (below n f) i d ≡ d
get_d_past n f d i h = get_or-eq_default (below n f) d (subst (λ (x : ℕ). x ≤ i) (sym (length-below n f)) h)

-- ---- an entry of a list made from the first n of another

pub get_or-made : {A B : Type 0} (f : A → B) (xs : List A) (n i : ℕ) (d : A) (e : B) → i < n → n ≤ length xs → get_or (map f (take n xs)) i e ≡ f (get_or xs i d)
get_or-made f [] n i d e h l = absurd (omega arith)
get_or-made f (x ∷ xs) zero i d e h l = absurd (omega arith)
get_or-made f (x ∷ xs) (suc n) zero d e h l = refl
get_or-made f (x ∷ xs) (suc n) (suc i) d e h l = get_or-made f xs n i d e (le_of_suc-le-suc h) (le_of_suc-le-suc l)

pub length-made : {A B : Type 0} (f : A → B) (xs : List A) (n : ℕ) → n ≤ length xs → length (map f (take n xs)) ≡ n
length-made f xs n l = length-map (take n xs) f ∙ lib.Seq.length-take-le n xs l

-- ---- what holds of each entry

pub all_at : {A : Type 0} (Q : A → Type 0) (xs : List A) (d : A) (i : ℕ) → All Q xs → i < length xs → Q (get_or xs i d)
all_at Q [] d i h l = absurd (not-suc-le-zero l)
all_at Q (x ∷ xs) d zero h l = h.0
all_at Q (x ∷ xs) d (suc i) h l = all_at Q xs d i h.1 (le_of_suc-le-suc l)

pub all_append : {A : Type 0} (Q : A → Type 0) (xs ys : List A) → All Q xs → All Q ys → All Q (xs ++ ys)
all_append Q [] ys h k = k
all_append Q (x ∷ xs) ys h k = (h.0, all_append Q xs ys h.1 k)
