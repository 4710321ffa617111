-- No text of the lister is longer than `longest`, whatever numbers of their width it shows.
use mathlib.Core.Path.{sym, ◌∙◌, subst}
use mathlib.Core.Bool.{Bool, true, false, ◌||◌, cond}
use mathlib.Core.List.{List, [], ◌∷◌, ◌++◌}
use Prim.Native.Nat.{ℕ, zero, suc, ◌+◌, ◌*◌, ◌/◌, ◌%◌, ◌^◌, ◌≤◌, ◌<◌}
use native.Mathlib.Omega.{arith}
use native.Mathlib.Nat.{pow-suc}
use lib.ListN.{length, get_or, take, drop, length-append}
use lib.Seq.{get_or-take, get_or-drop}
use lib.Dec.{eqb}
use Rattle.sets.specs.paper.Sets.{members, members_from, when, any_of}
use Rattle.sets.proofs.SumLaws.{count_le}
use Rattle.page.specs.Decimal.{decimal}
use Rattle.page.proofs.DecimalLaws.{digits_more, two_digits, three_digits}
use Rattle.report.specs.paper.Line.{Line, line_length}
use Rattle.report.specs.paper.LineAt.{line_at, decoded, lines_from}
use Rattle.report.specs.paper.Units.{join_unit, units_with, units}
use Rattle.billing.specs.paper.Households.{household, household_count}
use Rattle.billing.proofs.LinePlaces.{lines-count}
use Rattle.listing.specs.Text.{further, persons, cell, row, row_of, rows, last_row, table, refused_row}
use Rattle.listing.specs.Listing.{longest}

-- ---- the persons of a block

further-short : (k p m : ℕ) → p + k ≤ 100 → length (further (members_from k p m)) ≤ 3 * k
unfolding further members_from
further-short zero p m h = omega arith
further-short (suc k) p m h = pick (m % 2) (further-short k (suc p) (m / 2) (omega arith))
  where
    pick : (d : ℕ) → length (further (members_from k (suc p) (m / 2))) ≤ 3 * k → length (further (when d p (members_from k (suc p) (m / 2)))) ≤ 3 * suc k
    pick zero l = omega arith
    pick (suc d) l =
        let two = two_digits p (omega arith) in
        let long = length-append (decimal p) (further (members_from k (suc p) (m / 2))) in
        omega arith

persons-short : (k p m : ℕ) → p + k ≤ 100 → length (persons (members_from k p m)) ≤ 3 * k + 1
unfolding persons members_from
persons-short zero p m h = omega arith
persons-short (suc k) p m h = pick (m % 2) (persons-short k (suc p) (m / 2) (omega arith))
  where
    pick : (d : ℕ) → length (persons (members_from k (suc p) (m / 2))) ≤ 3 * k + 1 → length (persons (when d p (members_from k (suc p) (m / 2)))) ≤ 3 * suc k + 1
    pick zero l = omega arith
    pick (suc d) l =
        let two = two_digits p (omega arith) in
        let rest = further-short k (suc p) (m / 2) (omega arith) in
        let long = length-append (decimal p) (further (members_from k (suc p) (m / 2))) in
        omega arith

block-short : (m : ℕ) → length (persons (members m)) ≤ 193
unfolding members
block-short m = persons-short 64 0 m (omega arith)

-- ---- rows

cell-short : (n : ℕ) → n < 256 → length (cell n) ≤ 4
unfolding cell
cell-short n h = let d = three_digits n (omega arith) in let long = length-append (decimal n) (32 ∷ []) in omega arith

row-short : (person kind role block : ℕ) → person < 256 → kind < 256 → role < 256 → length (row_of person kind role block) ≤ 206
unfolding row_of
row-short person kind role block a b c =
    let p = cell-short person a in
    let k = cell-short kind b in
    let r = cell-short role c in
    let m = block-short block in
    simp length-append (omega arith)

rows_short : (s : List ℕ) → ((i : ℕ) → get_or s i 0 < 256) → (n k : ℕ) → length (rows (lines_from s k n)) ≤ 206 * n
unfolding rows lines_from decoded line_at
rows_short s h zero k = omega arith
rows_short s h (suc n) k =
    let one = row-short _ _ _ (decoded (line_at s k)).block (byte 0 (omega arith)) (byte 1 (omega arith)) (byte 2 (omega arith)) in
    let more = rows_short s h n (suc k) in
    let long = length-append (row (decoded (line_at s k))) (rows (lines_from s (suc k) n)) in
    omega arith
  where
    byte : (i : ℕ) → i < line_length → get_or (take line_length (drop (line_length * k) s)) i 0 < 256
    byte i l =
        subst (λ (x : ℕ). x < 256) (sym (get_or-take line_length (drop (line_length * k) s) i 0 l ∙ get_or-drop (line_length * k) s i 0)) (h (line_length * k + i))

-- ---- units: no more than lines

join_few : (us : List ℕ) (b : ℕ) → length (join_unit us b) ≤ length us + 1
join_few us b = pick (eqb b 0 || any_of (eqb b) us)
  where
    pick : (t : Bool) → length (cond t us (us ++ (b ∷ []))) ≤ length us + 1
    pick true = omega arith
    pick false = omega (arith, length-append us (b ∷ []))

units-few : (us : List ℕ) (ls : List Line) → length (units_with us ls) ≤ length us + length ls
unfolding units_with
units-few us [] = omega arith
units-few us (l ∷ ls) = let j = join_few us l.block in let r = units-few (join_unit us l.block) ls in omega arith

-- and households no more than units
households_few : (ls : List Line) → household_count ls ≤ length ls
unfolding household_count units
households_few ls = let c = count_le (household ls) (units ls) in let u = units-few [] ls in omega arith

pub table-short : (s : List ℕ) → ((i : ℕ) → get_or s i 0 < 256) → (n : ℕ) → n ≤ 64 → length (table (lines_from s 0 n)) ≤ longest
unfolding table last_row
table-short s h n l =
    let r = rows_short s h n 0 in
    let u = households_few (lines_from s 0 n) in
    let c = lines-count s 0 n in
    let d = two_digits (household_count (lines_from s 0 n)) (omega arith) in
    simp length-append (omega arith)

-- ---- a refusal

twenty_digits : (n : ℕ) → n < 2 ^ 64 → length (decimal n) ≤ 20
twenty_digits n h = many 17 n (omega arith)
  where
    many : (k n : ℕ) → n < 1000 * 10 ^ k → length (decimal n) ≤ 3 + k
    many zero n l = three_digits n (omega arith)
    many (suc k) n l = let e = pow-suc 10 k in let d = digits_more (3 + k) (1000 * 10 ^ k) (many k) (omega arith) n (omega arith) in omega arith

pub refused-short : (n k : ℕ) → n < 256 → k < 2 ^ 64 → length (refused_row n k) ≤ longest
unfolding refused_row
refused-short n k a b =
    let d = cell-short n a in
    let e = twenty_digits k b in
    simp length-append (omega arith)
