-- The entries of a list, the lines of a buffer, their units and their shares, by their places.
use mathlib.Core.Path.{◌≡◌, refl, sym, ap, ◌∙◌, subst}
use mathlib.Core.Bool.{Bool, true, false, ◌||◌, not, or-true, false≢true}
use mathlib.Core.List.{List, [], ◌∷◌, ◌++◌, map}
use mathlib.Core.Logic.{◌≢◌}
use Prim.Native.Nat.{ℕ, zero, suc, ◌+◌, ◌≤◌, ◌<◌, suc-le-suc}
use native.Mathlib.Nat.{le_of_suc-le-suc, not-suc-le-zero, zero-lt-suc}
use native.Mathlib.Omega.{arith}
use lib.ListN.{length, get_or, drop}
use lib.Seq.{drop-cons}
use lib.Dec.{eqb}
use borrow.Author.Tests.{eqb-true, eqb-false, eq-eqb, ne_eqb, not-true}
use Rattle.sets.specs.paper.Sets.{any_of, numbers, sum_of, All}
use Rattle.sets.proofs.SetLaws.{and_parts}
use Rattle.sets.proofs.SumLaws.{sum_map}
use Rattle.report.specs.paper.Line.{Line}
use Rattle.report.specs.paper.LineAt.{line_at, decoded, lines_from}
use Rattle.report.specs.paper.Units.{units}
use Rattle.billing.specs.paper.Pools.{Share, shares}
use Rattle.billing.proofs.ByUnits.{units_any}

-- ---- entries

module _ {A : Type 0} (d : A) where
  -- an entry that passes a test, and a list in which one does
  pub any_at : (f : A → Bool) (xs : List A) (i : ℕ) → i < length xs → f (get_or xs i d) ≡ true → any_of f xs ≡ true
  unfolding any_of
  any_at f [] i l e = absurd (not-suc-le-zero l)
  any_at f (x ∷ xs) zero l e = ap (λ (b : Bool). b || any_of f xs) e
  any_at f (x ∷ xs) (suc i) l e = ap (λ (b : Bool). f x || b) (any_at f xs i (le_of_suc-le-suc l) e) ∙ or-true (f x)

  pub at_any : (f : A → Bool) (xs : List A) → any_of f xs ≡ true → (i : ℕ) × (i < length xs) × (f (get_or xs i d) ≡ true)
  unfolding any_of
  at_any f [] e = absurd (false≢true e)
  at_any f (x ∷ xs) e = go (f x) refl (at_any f xs) e
    where
      go : (b : Bool) → f x ≡ b → (any_of f xs ≡ true → (i : ℕ) × (i < length xs) × (f (get_or xs i d) ≡ true)) → (b || any_of f xs) ≡ true
          → (i : ℕ) × (i < suc (length xs)) × (f (get_or (x ∷ xs) i d) ≡ true)
      go true h later k = (0, zero-lt-suc (length xs), h)
      go false h later k = let r = later k in (suc r.0, suc-le-suc r.1, r.2)

  -- what holds at each place
  pub at_all : (Q : A → Type 0) (xs : List A) → ((i : ℕ) → i < length xs → Q (get_or xs i d)) → All Q xs
  at_all Q [] h = tt
  at_all Q (x ∷ xs) h = (h 0 (zero-lt-suc (length xs)), at_all Q xs (λ i l. h (suc i) (suc-le-suc l)))

-- ---- lines

pub lines-count : (s : List ℕ) (k n : ℕ) → length (lines_from s k n) ≡ n
unfolding lines_from
lines-count s k zero = refl
lines-count s k (suc n) = ap suc (lines-count s (suc k) n)

line_from_lem : (s : List ℕ) (d : Line) (k n i : ℕ) → i < n → get_or (lines_from s k n) i d ≡ decoded (line_at s (k + i))
unfolding lines_from
line_from_lem s d k zero i l = absurd (not-suc-le-zero l)
line_from_lem s d k (suc n) zero l = ap (λ (j : ℕ). decoded (line_at s j)) (let e : k ≡ k + 0 = omega arith in e)
line_from_lem s d k (suc n) (suc i) l = line_from_lem s d (suc k) n i (le_of_suc-le-suc l) ∙ ap (λ (j : ℕ). decoded (line_at s j)) (let e : suc k + i ≡ k + suc i = omega arith in e)

-- line i
pub line_at_lem : (s : List ℕ) (d : Line) (n i : ℕ) → i < n → get_or (lines_from s 0 n) i d ≡ decoded (line_at s i)
line_at_lem s d n i l = line_from_lem s d 0 n i l ∙ ap (λ (j : ℕ). decoded (line_at s j)) (let e : 0 + i ≡ i = omega arith in e)

last_from : (s : List ℕ) (k n : ℕ) → lines_from s k (suc n) ≡ lines_from s k n ++ (decoded (line_at s (k + n)) ∷ [])
unfolding lines_from
last_from s k zero = ap (λ (j : ℕ). decoded (line_at s j) ∷ []) (let e : k ≡ k + 0 = omega arith in e)
last_from s k (suc n) =
    ap (λ (ls : List Line). decoded (line_at s k) ∷ ls) (last_from s (suc k) n
    ∙ ap (λ (j : ℕ). lines_from s (suc k) n ++ (decoded (line_at s j) ∷ [])) (let e : suc k + n ≡ k + suc n = omega arith in e))

-- one line more
pub lines-last : (s : List ℕ) (n : ℕ) → lines_from s 0 (suc n) ≡ lines_from s 0 n ++ (decoded (line_at s n) ∷ [])
lines-last s n = last_from s 0 n ∙ ap (λ (j : ℕ). lines_from s 0 n ++ (decoded (line_at s j) ∷ [])) (let e : 0 + n ≡ n = omega arith in e)

-- a line that passes a test, and lines of which one does
pub any_line : (f : Line → Bool) (s : List ℕ) (n i : ℕ) → i < n → f (decoded (line_at s i)) ≡ true → any_of f (lines_from s 0 n) ≡ true
any_line f s n i l e =
    let d = decoded (line_at s i) in
    any_at d f (lines_from s 0 n) i (subst (λ (m : ℕ). i < m) (sym (lines-count s 0 n)) l) (ap f (line_at_lem s d n i l) ∙ e)

pub line_any : (f : Line → Bool) (s : List ℕ) (n : ℕ) → any_of f (lines_from s 0 n) ≡ true → (i : ℕ) × (i < n) × (f (decoded (line_at s i)) ≡ true)
line_any f s n e =
    let d = decoded [] in
    let r = at_any d f (lines_from s 0 n) e in
    let l : r.0 < n = subst (λ (m : ℕ). r.0 < m) (lines-count s 0 n) r.1 in
    (r.0, l, ap f (sym (line_at_lem s d n r.0 l)) ∙ r.2)

-- what holds of each line
pub line_all : (Q : Line → Type 0) (s : List ℕ) (n : ℕ) → ((i : ℕ) → i < n → Q (decoded (line_at s i))) → All Q (lines_from s 0 n)
line_all Q s n h =
    let d = decoded [] in
    at_all d Q (lines_from s 0 n) (λ i m.
    let l : i < n = subst (λ (k : ℕ). i < k) (lines-count s 0 n) m in
    subst Q (sym (line_at_lem s d n i l)) (h i l))

-- what holds of each number below n
pub number_all : (Q : ℕ → Type 0) (n : ℕ) → ((k : ℕ) → k < n → Q k) → All Q (numbers n 0)
unfolding numbers
number_all Q n h = go n 0 (λ k l. h k (omega arith))
  where
    go : (m j : ℕ) → ((k : ℕ) → k < j + m → Q k) → All Q (numbers m j)
    go zero j h = tt
    go (suc m) j h = (h j (omega arith), go m (suc j) (λ k l. h k (omega arith)))

-- ---- shares

abbrev pub share_at : List ℕ → List ℕ → ℕ → Share
share_at s cs k = record { line = decoded (line_at s k); cents = get_or cs k 0 }

shares_from : (s cs : List ℕ) (k n : ℕ) → k + n ≤ length cs → shares (lines_from s k n) (drop k cs) ≡ map (share_at s cs) (numbers n k)
unfolding shares lines_from numbers
shares_from s cs k zero h = refl
shares_from s cs k (suc n) h =
    ap (λ (rest : List ℕ). shares (lines_from s k (suc n)) rest) (drop-cons cs k 0 (omega arith))
    ∙ ap (λ (xs : List Share). share_at s cs k ∷ xs) (shares_from s cs (suc k) n (omega arith))

-- a sum over the shares is one over the numbers of their lines
pub sum_places : (f : Share → ℕ) (s cs : List ℕ) (n : ℕ) → length cs ≡ n → sum_of f (shares (lines_from s 0 n) cs) ≡ sum_of (λ k. f (share_at s cs k)) (numbers n 0)
sum_places f s cs n e = ap (sum_of f) (shares_from s cs 0 n (omega arith)) ∙ sum_map f (share_at s cs) (numbers n 0)

-- ---- units

-- each is some line's block
pub unit_line : (s : List ℕ) (n i : ℕ) → i < length (units (lines_from s 0 n))
    → (k : ℕ) × (k < n) × ((decoded (line_at s k)).block ≡ get_or (units (lines_from s 0 n)) i 0) × (get_or (units (lines_from s 0 n)) i 0 ≢ 0)
unit_line s n i l =
    let u = get_or (units (lines_from s 0 n)) i 0 in
    let t = and_parts (not (eqb u 0)) _ (sym (units_any (lines_from s 0 n) u) ∙ any_at 0 (eqb u) (units (lines_from s 0 n)) i l (eq-eqb u u refl)) in
    let r = line_any (λ l. eqb l.block u) s n t.1 in
    (r.0, r.1, eqb-true (decoded (line_at s r.0)).block u r.2, eqb-false u 0 (not-true (eqb u 0) t.0))

-- and the block of a line, if it has one, is among them
pub line_unit : (s : List ℕ) (n k : ℕ) → k < n → (decoded (line_at s k)).block ≢ 0 → any_of (eqb (decoded (line_at s k)).block) (units (lines_from s 0 n)) ≡ true
line_unit s n k l z =
    let b = (decoded (line_at s k)).block in
    units_any (lines_from s 0 n) b ∙ rw (ne_eqb b 0 z) (any_line (λ l. eqb l.block b) s n k l (eq-eqb b b refl))
