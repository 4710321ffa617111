-- Sums over the lines left, and what a line read back is counted for.
use mathlib.Core.Path.{◌≡◌, refl, sym, ap, ap₂, ◌∙◌}
use mathlib.Core.Bool.{Bool, ◌||◌}
use mathlib.Core.List.{List, ◌∷◌}
use Prim.Native.Nat.{ℕ, zero, suc, ◌+◌, ◌-◌, ◌≤◌, ◌<◌}
use native.Mathlib.Numerals.{add-one}
use native.Mathlib.Omega.{arith}
use lib.ListN.{length, get_or, drop}
use lib.Seq.{drop-cons}
use Rattle.std.specs.List.{list_any, range_with_len}
use Rattle.sets.specs.paper.Sets.{any_of, sum_of}
use Rattle.sets.proofs.SumLaws.{sum_first, sum_end}
use Rattle.report.specs.paper.Line.{Line}
use Rattle.report.specs.paper.LineAt.{line_at, decoded, lines_from}
use Rattle.billing.specs.paper.Pools.{Share, shares}
use Rattle.billing.proofs.UnitLaws.{lines_next, lines_none}

-- ---- the shares from line k on

abbrev pub shares_from_lem : List ℕ → List ℕ → ℕ → ℕ → List Share
shares_from_lem s cs k n = shares (lines_from s k (n - k)) (drop k cs)

pub shares_all : (s cs : List ℕ) (n : ℕ) → shares_from_lem s cs 0 n ≡ shares (lines_from s 0 n) cs
shares_all s cs n = ap (λ (j : ℕ). shares (lines_from s 0 j) cs) (let z : n - 0 ≡ n = omega arith in z)

shares-next : (s cs : List ℕ) (k n : ℕ) → k < n → n ≤ length cs
    → shares_from_lem s cs k n ≡ record { line = decoded (line_at s k); cents = get_or cs k 0 } ∷ shares_from_lem s cs (k + 1) n
unfolding shares
shares-next s cs k n h l =
    ap₂ (λ (ls : List Line) (cs : List ℕ). shares ls cs) (lines_next s k n h) (drop-cons cs k 0 (omega arith))
    ∙ ap (λ (j : ℕ). record { line = decoded (line_at s k); cents = get_or cs k 0 } ∷ shares (lines_from s (k + 1) (n - (k + 1))) (drop j cs)) (let e : suc k ≡ k + 1 = omega arith in e)

-- a line more, or none left
pub shares_added : (f : Share → ℕ) (s cs : List ℕ) (k n sum part : ℕ) → k < n → n ≤ length cs → part ≡ f (record { line = decoded (line_at s k); cents = get_or cs k 0 })
    → sum + part + sum_of f (shares_from_lem s cs (k + 1) n) ≡ sum + sum_of f (shares_from_lem s cs k n)
shares_added f s cs k n sum part h l = sum_first f sum (sum + part) part _ _ _ (shares-next s cs k n h l) refl

pub shares-ended : (f : Share → ℕ) (s cs : List ℕ) (k n sum : ℕ) → n ≤ k → sum ≡ sum + sum_of f (shares_from_lem s cs k n)
unfolding shares
shares-ended f s cs k n sum h = sym (sum_end f sum _ (ap (λ (ls : List Line). shares ls (drop k cs)) (lines_none s k n h)))

-- a test of some line, by the lines' numbers
pub some_line : (f : Line → Bool) (s : List ℕ) (k n : ℕ) → list_any (λ i. f (decoded (line_at s i))) (range_with_len k n) ≡ any_of f (lines_from s k n)
unfolding any_of lines_from
some_line f s k zero = refl
some_line f s k (suc n) = ap (λ (b : Bool). f (decoded (line_at s k)) || b) (rw add-one (some_line f s (suc k) n))
