-- Laws of the rows gone through one by one.
use mathlib.Core.Path.{◌≡◌}
use mathlib.Core.List.{List, [], ◌∷◌, ◌++◌}
use Prim.Native.Nat.{ℕ, suc, ◌+◌, ◌≤◌, ◌<◌}
use lib.ListN.{length, drop, drop_of_length-le}
use borrow.Author.Tests.{lt-ltb, le-ltb}
use Rattle.records.specs.paper.Fields.{fine, refused}
use Rattle.records.specs.paper.Plan.{Edge, Status}
use Rattle.spreadsheet.specs.paper.Rows.{row_of}
use Rattle.spreadsheet.specs.paper.RowRules.{Rule, joins, marks, rule_of, Start, behind, header_of}
use Rattle.spreadsheet.specs.paper.Table.{drafted, rows_from, tabled}
use Rattle.spreadsheet.proofs.FieldLaws.{more_left}

module _ (s : List ℕ) (at k n : ℕ) (es : List Edge) (ts : List Status) where
  pub rows_end : length s ≤ at → fine (drafted es ts) ≡ rows_from (suc k) (drop at s) es ts n
  unfolding rows_from
  rows_end h = rw (drop_of_length-le s h)

  module _ (h : at < length s) where
    pub rows-bad : Rule.bad ≡ rule_of (row_of (drop at s)) → refused 16 n ≡ rows_from (suc k) (drop at s) es ts n
    unfolding rows_from
    rows-bad e = rw (more_left s at h, ← e)

    module _ (e : Edge) (rest : List ℕ) (is : joins e rest ≡ rule_of (row_of (drop at s))) where
      pub rows-edge : length es < 64 → rows_from k rest (es ++ (e ∷ [])) ts (n + 1) ≡ rows_from (suc k) (drop at s) es ts n
      unfolding rows_from
      rows-edge g = rw (more_left s at h, ← is, lt-ltb (length es) 64 g)

      pub rows-edges : 64 ≤ length es → refused 16 n ≡ rows_from (suc k) (drop at s) es ts n
      unfolding rows_from
      rows-edges g = rw (more_left s at h, ← is, le-ltb (length es) 64 g)

    module _ (t : Status) (rest : List ℕ) (is : marks t rest ≡ rule_of (row_of (drop at s))) where
      pub rows-status : length ts < 32 → rows_from k rest es (ts ++ (t ∷ [])) (n + 1) ≡ rows_from (suc k) (drop at s) es ts n
      unfolding rows_from
      rows-status g = rw (more_left s at h, ← is, lt-ltb (length ts) 32 g)

      pub rows-statuses : 32 ≤ length ts → refused 16 n ≡ rows_from (suc k) (drop at s) es ts n
      unfolding rows_from
      rows-statuses g = rw (more_left s at h, ← is, le-ltb (length ts) 32 g)

pub tabled-headed : (s rest : List ℕ) → behind rest ≡ header_of (row_of s) → rows_from (suc (length s)) rest [] [] 1 ≡ tabled s
unfolding tabled
tabled-headed s rest e = rw (← e)

pub tabled-not : (s : List ℕ) → Start.none ≡ header_of (row_of s) → refused 16 0 ≡ tabled s
unfolding tabled
tabled-not s e = rw (← e)
