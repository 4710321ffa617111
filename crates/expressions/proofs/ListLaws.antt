-- Laws of lists that a loop goes through: made from the entries in use of an array, or stored in one.
use Prim.Native.Nat.{ℕ, zero, suc, ◌+◌, ◌≤◌, ◌<◌, min}
use mathlib.Core.Path.{◌≡◌, refl, sym, ap, ap₂, ◌∙◌, subst}
use mathlib.Core.Bool.{Bool, true, false, ◌&&◌, ◌||◌, cond, or_assoc, or-false}
use mathlib.Core.Logic.{⊎_elim}
use mathlib.Core.List.{append_assoc, List, [], ◌∷◌, ◌++◌, map, map-append, map-map}
use native.Mathlib.Numerals.{add-one}
use native.Mathlib.Omega.{arith}
use lib.ListN.{length, get_or, take, set, replicate}
use lib.Dec.{eqb}
use lib.Seq.{ext_get_or, get_or-set_same, get_or-set_other, take-suc-set, get_or-take, take-suc, take_all, length-take-le}
use borrow.Author.Tests.{eqb-true, eqb-false}
use Rattle.std.specs.List.{list_any, list_all, fold}
use Rattle.std.proofs.lemmas.List.Folds.{fold-map}
use Rattle.sets.proofs.UnionLaws.{union_assoc, union-none, none-union}
use Rattle.sets.specs.paper.Sets.{union, union_of, all_of, any_of, numbers, below, All}
use Rattle.sets.proofs.LoopLaws.{get_or-below, get_d_past, length-below, all_at}
use Rattle.sets.proofs.SetLaws.{lt_or_le}
use Rattle.records.proofs.ListLaws.{length_front, get_d_front}
use Rattle.records.proofs.Listing.{below_more}
use Rattle.expressions.specs.code.Coded.{Holds}

-- ---- a list made from the entries of an array, one entry at a time

pub front_more : {A B : Type 0} (f : A → B) (xs : List A) (i : ℕ) (d : A) → i < length xs → map f (take (i + 1) xs) ≡ map f (take i xs) ++ (f (get_or xs i d) ∷ [])
front_more f xs i d h = ap (map f) (ap (λ (k : ℕ). take k xs) (add-one i) ∙ take-suc xs i d h) ∙ map-append f (take i xs) (get_or xs i d ∷ [])

-- of those in use
module _ {A B : Type 0} (f : A → B) (xs : List A) (count most n : ℕ) (long : length xs ≡ most) (some : n ≡ min count most) where
  pub made-length : length (map f (take count xs)) ≡ n
  made-length = length_front f xs count most long ∙ sym some

  pub made_at : (i : ℕ) (d : A) (e : B) → i < n → get_or (map f (take count xs)) i e ≡ f (get_or xs i d)
  made_at i d e h = let l = made-length in get_d_front f xs count i d e (omega arith)

  pub made-next : (i : ℕ) (d : A) → i < n → take (i + 1) (map f (take count xs)) ≡ take i (map f (take count xs)) ++ (f (get_or xs i d) ∷ [])
  made-next i d h =
      let l = made-length in
      let all = map f (take count xs) in
      ap (λ (j : ℕ). take j all) (add-one i) ∙ take-suc all i (f d) (omega arith) ∙ ap (λ (x : B). take i all ++ (x ∷ [])) (made_at i d (f d) h)

  pub made-part : (i : ℕ) → i ≤ n → length (take i (map f (take count xs))) ≡ i
  made-part i h = let l = made-length in length-take-le i (map f (take count xs)) (omega arith)

  pub made_all : (i : ℕ) → n ≤ i → take i (map f (take count xs)) ≡ map f (take count xs)
  made_all i h = let l = made-length in take_all i (map f (take count xs)) (omega arith)

  -- what holds of each
  pub made_each : (Q : B → Type 0) (i : ℕ) (d : A) → i < n → All Q (map f (take count xs)) → Q (f (get_or xs i d))
  made_each Q i d h q = let l = made-length in subst Q (made_at i d (f d) h) (all_at Q (map f (take count xs)) (f d) i q (omega arith))

-- ---- a test of all or any of the entries, by the first of them

module _ {A : Type 0} (f : A → Bool) (k : A) (rest : List A) where
  pub all_go : f k ≡ true → all_of f (k ∷ rest) ≡ all_of f rest
  unfolding all_of
  all_go e = ap (λ (b : Bool). b && all_of f rest) e

  pub all_stop : f k ≡ false → all_of f (k ∷ rest) ≡ false
  unfolding all_of
  all_stop e = ap (λ (b : Bool). b && all_of f rest) e

  pub any_go : f k ≡ false → any_of f (k ∷ rest) ≡ any_of f rest
  unfolding any_of
  any_go e = ap (λ (b : Bool). b || any_of f rest) e

  pub any_stop : f k ≡ true → any_of f (k ∷ rest) ≡ true
  unfolding any_of
  any_stop e = ap (λ (b : Bool). b || any_of f rest) e

-- what std says of them
pub any_listed : {A : Type 0} (f : A → Bool) (xs : List A) → list_any f xs ≡ any_of f xs
unfolding any_of
any_listed f [] = refl
any_listed f (x ∷ xs) = ap (λ (b : Bool). f x || b) (any_listed f xs)

pub all_listed : {A : Type 0} (f : A → Bool) (xs : List A) → list_all f xs ≡ all_of f xs
unfolding all_of
all_listed f [] = refl
all_listed f (x ∷ xs) = ap (λ (b : Bool). f x && b) (all_listed f xs)

-- ---- a union that takes in one entry after another

pub folded_onto : {A : Type 0} (f : A → ℕ) (m : ℕ) (xs : List A) → fold (λ n x. union n (f x)) m xs ≡ union m (union_of f xs)
unfolding union_of
folded_onto f m [] = sym (union-none m)
folded_onto f m (x ∷ xs) = folded_onto f (union m (f x)) xs ∙ union_assoc m (f x) (union_of f xs)

pub folded : {A : Type 0} (f : A → ℕ) (xs : List A) → fold (λ n x. union n (f x)) 0 xs ≡ union_of f xs
folded f xs = folded_onto f 0 xs ∙ none-union (union_of f xs)

-- what is made of each, taken in
pub folded-map : {A : Type 0} (f : A → ℕ) (xs : List A) → fold union 0 (map f xs) ≡ union_of f xs
folded-map f xs = fold-map union f 0 xs ∙ folded f xs

-- ---- one entry more at the end

pub any_last : {A : Type 0} (f : A → Bool) (xs : List A) (x : A) → any_of f (xs ++ (x ∷ [])) ≡ (any_of f xs || f x)
unfolding any_of
any_last f [] x = or-false (f x)
any_last f (y ∷ xs) x = ap (λ (b : Bool). f y || b) (any_last f xs x) ∙ sym (or_assoc (f y) (any_of f xs) (f x))

-- an entry where the test holds
pub length_if : {A : Type 0} (b : Bool) (x : A) → length (cond b (x ∷ []) []) ≡ cond b 1 0
length_if true x = refl
length_if false x = refl

-- ---- equal tests give equal answers

module _ {A : Type 0} (f g : A → Bool) (same : (x : A) → f x ≡ g x) where
  pub all_agree : (xs : List A) → all_of f xs ≡ all_of g xs
  unfolding all_of
  all_agree [] = refl
  all_agree (x ∷ xs) = ap₂ ◌&&◌ (same x) (all_agree xs)

  pub any_agree : (xs : List A) → any_of f xs ≡ any_of g xs
  unfolding any_of
  any_agree [] = refl
  any_agree (x ∷ xs) = ap₂ ◌||◌ (same x) (any_agree xs)

-- ---- an array that holds a list

-- within the array and past it
pub filled_at : {A : Type 0} (n i : ℕ) (d : A) → get_or (replicate n d) i d ≡ d
filled_at zero i d = refl
filled_at (suc n) zero d = refl
filled_at (suc n) (suc i) d = filled_at n i d

pub holds_none : {A : Type 0} (n : ℕ) (d : A) → Holds d (replicate n d) []
holds_none n d = record { at = λ i. filled_at n i d }

-- an entry stored at the list's end
stored : {A : Type 0} (d : A) (out done : List A) (v : A) → length done < length out → ((k : ℕ) → get_or out k d ≡ get_or done k d)
    → (k : ℕ) → get_or (set out (length done) v) k d ≡ get_or (done ++ (v ∷ [])) k d
stored d [] done v l h k = absurd (omega arith)
stored d (x ∷ out) [] v l h zero = refl
stored d (x ∷ out) [] v l h (suc k) = h (suc k)
stored d (x ∷ out) (y ∷ done) v l h zero = h zero
stored d (x ∷ out) (y ∷ done) v l h (suc k) = stored d out done v (omega arith) (λ j. h (suc j)) k

pub holds_next : {A : Type 0} (d : A) (out done : List A) (i : ℕ) (v : A) → length done ≡ i → i < length out → Holds d out done
    → Holds d (set out i v) (done ++ (v ∷ []))
holds_next d out done i v e l h =
    subst (λ (j : ℕ). Holds d (set out j v) (done ++ (v ∷ []))) e (record { at = stored d out done v (omega arith) (λ k. h.at k) })

-- ---- f 0 … f (n − 1), one more at the end

pub below_last : {A : Type 0} (n : ℕ) (f : ℕ → A) → below (suc n) f ≡ below n f ++ (f n ∷ [])
below_last n f = ap (λ (k : ℕ). below k f) (sym (add-one n)) ∙ below_more n f

pub below-map : {A B : Type 0} (g : A → B) (n : ℕ) (f : ℕ → A) → map g (below n f) ≡ below n (λ i. g (f i))
unfolding below
below-map g n f = map-map g f (numbers n 0)

-- an entry of two that are equal below n
pub below_at : {A : Type 0} (n : ℕ) (f g : ℕ → A) (d : A) (i : ℕ) → (i < n → f i ≡ g i) → get_or (below n f) i d ≡ get_or (below n g) i d
below_at n f g d i h =
    ⊎_elim (λ l. get_or-below n f d i l ∙ h l ∙ sym (get_or-below n g d i l)) (λ l. get_d_past n f d i l ∙ sym (get_d_past n g d i l)) (lt_or_le i n)

-- an array filled by number
pub fill_next : {A : Type 0} (d : A) (f : ℕ → A) (out : List A) (i : ℕ) (v : A) → i < length out → Holds d out (below i f) → v ≡ f i
    → Holds d (set out i v) (below (i + 1) f)
fill_next d f out i v l h e =
    subst (Holds d (set out i v)) (ap (λ (x : _). below i f ++ (x ∷ [])) e ∙ sym (below_more i f))
    (holds_next d out (below i f) i v (length-below i f) l h)

-- ---- a list put together behind another, by number

pub behind-next : {A : Type 0} (f : ℕ → A) (before : List A) (i : ℕ) {xs ys : List A} {v : A} → xs ≡ before ++ below i f → ys ≡ xs ++ (v ∷ []) → v ≡ f i
    → ys ≡ before ++ below (i + 1) f
behind-next f before i {xs} {ys} {v} e k s =
    k ∙ ap₂ (λ (l : List _) (x : _). l ++ (x ∷ [])) e s ∙ append_assoc before (below i f) (f i ∷ [])
    ∙ ap (λ (l : List _). before ++ l) (sym (below_more i f))

-- the same where the entry is stored in an array, behind the first `at`
pub stored_behind : {A : Type 0} (f : ℕ → A) (before xs : List A) (at i : ℕ) (v : A) → at + i < length xs → v ≡ f i → take (at + i) xs ≡ before ++ below i f
    → take (at + (i + 1)) (set xs (at + i) v) ≡ before ++ below (i + 1) f
stored_behind f before xs at i v l s e =
    let here : at + (i + 1) ≡ suc (at + i) = omega arith in
    behind-next f before i e (ap (λ (n : ℕ). take n (set xs (at + i) v)) here ∙ take-suc-set xs (at + i) v l) s

-- an entry that is changed, seen by number
pub changed_at : {A : Type 0} (xs : List A) (g f : ℕ) (h : A → A) (v d : A) → g < length xs → v ≡ h (get_or xs g d)
    → get_or (set xs g v) f d ≡ cond (eqb g f) (h (get_or xs f d)) (get_or xs f d)
changed_at xs g f h v d l e = pick (eqb g f) refl
  where
    pick : (b : Bool) → eqb g f ≡ b → get_or (set xs g v) f d ≡ cond b (h (get_or xs f d)) (get_or xs f d)
    pick true k =
        let same = eqb-true g f k in
        ap (λ (j : ℕ). get_or (set xs g v) j d) (sym same) ∙ get_or-set_same xs g v d l ∙ e ∙ ap (λ (j : ℕ). h (get_or xs j d)) same
    pick false k = get_or-set_other xs g f v d (λ q. eqb-false g f k (sym q))

-- the front of an array, by number
pub front_below : {A : Type 0} (d : A) (xs : List A) (n : ℕ) → n ≤ length xs → take n xs ≡ below n (λ i. get_or xs i d)
front_below d xs n h =
    ext_get_or d (take n xs) (below n (λ i. get_or xs i d)) (length-take-le n xs h ∙ sym (length-below n (λ i. get_or xs i d))) (λ i l.
    let k : i < n = subst (λ (m : ℕ). i < m) (length-take-le n xs h) l in
    get_or-take n xs i d k ∙ sym (get_or-below n (λ i. get_or xs i d) d i k))
