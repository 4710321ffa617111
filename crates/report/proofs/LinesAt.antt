-- The bytes of a line at its place in the buffer.
use mathlib.Core.Path.{◌≡◌, refl, ap, ◌∙◌}
use mathlib.Core.List.{List, [], ◌∷◌, ◌++◌, map, flat_map, append_assoc}
use Prim.Native.Nat.{ℕ, zero, suc, ◌+◌, ◌*◌, ◌-◌, ◌≤◌, ◌<◌}
use native.Mathlib.Omega.{arith}
use native.Mathlib.Nat.{not-suc-le-zero, le_of_suc-le-suc}
use lib.ListN.{length, get_or, take, drop, replicate}
use lib.Seq.{take_at, drop-append-add}
use Rattle.page.specs.Little.{little_bytes}
use Rattle.report.specs.paper.Line.{Line, line_bytes, line_length}
use Rattle.report.specs.paper.Operations.{filled}

pub line-length : (l : Line) → length (line_bytes l) ≡ line_length
unfolding line_bytes little_bytes
line-length l = refl

-- all lines, one after another
abbrev pub run : List Line → List ℕ
run ls = flat_map (λ p. p) (map line_bytes ls)

-- behind the first line stand the others
next-line : (l : Line) (ls : List Line) (rest : List ℕ) (i : ℕ)
    → drop (line_length * suc i) (run (l ∷ ls) ++ rest) ≡ drop (line_length * i) (run ls ++ rest)
unfolding flat_map
next-line l ls rest i =
    ap (drop (line_length * suc i)) (append_assoc (line_bytes l) (run ls) rest)
    ∙ ap (λ (k : ℕ). drop k (line_bytes l ++ (run ls ++ rest)))
    (let e = line-length l in let w : line_length * suc i ≡ length (line_bytes l) + line_length * i = omega arith in w)
    ∙ drop-append-add (line_bytes l) (run ls ++ rest) (line_length * i)

-- before whatever follows
lines_at : (ls : List Line) (rest : List ℕ) (i : ℕ) (d : Line) → i < length ls
    → take line_length (drop (line_length * i) (run ls ++ rest)) ≡ line_bytes (get_or ls i d)
unfolding flat_map
lines_at [] rest i d h = absurd (not-suc-le-zero h)
lines_at (l ∷ ls) rest zero d h =
    ap (take line_length) (append_assoc (line_bytes l) (run ls) rest) ∙ take_at (line_bytes l) (run ls ++ rest) line_length (line-length l)
lines_at (l ∷ ls) rest (suc i) d h = ap (take line_length) (next-line l ls rest i) ∙ lines_at ls rest i d (le_of_suc-le-suc h)

pub line_at_lem : (room : ℕ) (ls : List Line) (i : ℕ) (d : Line) → i < length ls
    → take line_length (drop (line_length * i) (filled room (map line_bytes ls))) ≡ line_bytes (get_or ls i d)
line_at_lem room ls i d h = lines_at ls (replicate (room - length (run ls)) 0) i d h

-- past the last line stands what follows
pub past-lines : (ls : List Line) (rest : List ℕ) (i : ℕ) → length ls ≤ i → (n : ℕ) × (drop (line_length * i) (run ls ++ rest) ≡ drop n rest)
unfolding flat_map
past-lines [] rest i h = (line_length * i, refl)
past-lines (l ∷ ls) rest zero h = absurd (not-suc-le-zero h)
past-lines (l ∷ ls) rest (suc i) h =
    let r = past-lines ls rest i (le_of_suc-le-suc h) in
    (r.0, next-line l ls rest i ∙ r.1)
