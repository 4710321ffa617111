-- A row takes bytes: fewer are behind it than before.
use mathlib.Core.Bool.{Bool, true, false, cond}
use mathlib.Core.List.{List, [], ◌∷◌}
use Prim.Native.Nat.{ℕ, suc, ◌≤◌, ◌<◌}
use native.Mathlib.Omega.{arith}
use lib.ListN.{length, get_or, drop, length-drop}
use lib.Dec.{eqb}
use Rattle.spreadsheet.specs.paper.Quoting.{Field, text, push, ends, plain, quoted, field_of}
use Rattle.spreadsheet.specs.paper.Rows.{on_field, comma, last, Row, row, row_by, row_of}
use Rattle.spreadsheet.specs.paper.RowRules.{Rule, joins, marks, bad, same, kind_word, left_word, right_word, citation_word, rule_of, Start, behind, header_of}
use Rattle.drafting.proofs.MadeRules.{rule_made}

-- at most so many bytes behind a field
abbrev Leaves : ℕ → Field → Type 0
Leaves m (text t rest) = length rest ≤ m
Leaves m Field.broken = Unit {0}

push-leaves : (m b : ℕ) (f : Field) → Leaves m f → Leaves (suc m) (push b f)
push-leaves m b (text t rest) h = omega arith
push-leaves m b Field.broken h = tt

more-leaves : (m : ℕ) (f : Field) → Leaves m f → Leaves (suc m) f
more-leaves m (text t rest) h = omega arith
more-leaves m Field.broken h = tt

plain-leaves : (s : List ℕ) → Leaves (length s) (plain s)
unfolding plain
plain-leaves [] = omega arith
plain-leaves (b ∷ s) = pick (ends b) (plain-leaves s)
  where
    pick : (x : Bool) → Leaves (length s) (plain s) → Leaves (length (b ∷ s)) (cond x (text [] (b ∷ s)) (push b (plain s)))
    pick true h = omega arith
    pick false h = push-leaves (length s) b (plain s) h

quoted-leaves : (p : ℕ) (s : List ℕ) → Leaves (length s) (quoted p s)
unfolding quoted
quoted-leaves p [] = pick (eqb p 34)
  where
    pick : (x : Bool) → Leaves 0 (cond x (text [] []) Field.broken)
    pick true = omega arith
    pick false = tt
quoted-leaves p (b ∷ s) = pick (eqb p 34) (eqb b 34) (eqb p 13) (eqb b 10) (λ q. quoted-leaves q s)
  where
    pick : (x y z w : Bool) → ((q : ℕ) → Leaves (length s) (quoted q s)) → Leaves (length (b ∷ s))
        (cond x (cond y (push 34 (quoted 0 s)) (text [] (b ∷ s)))
        (cond z (cond w (push 10 (quoted 10 s)) Field.broken)
        (cond w Field.broken (cond y (quoted 34 s) (push b (quoted b s))))))
    pick true true z w h = push-leaves (length s) 34 (quoted 0 s) (h 0)
    pick true false z w h = omega arith
    pick false y true true h = push-leaves (length s) 10 (quoted 10 s) (h 10)
    pick false y true false h = tt
    pick false y false true h = tt
    pick false true false false h = more-leaves (length s) (quoted 34 s) (h 34)
    pick false false false false h = push-leaves (length s) b (quoted b s) (h b)

field-leaves : (s : List ℕ) → Leaves (length s) (field_of s)
unfolding field_of
field-leaves [] = plain-leaves []
field-leaves (b ∷ s) = pick (eqb b 34)
  where
    pick : (x : Bool) → Leaves (length (b ∷ s)) (cond x (quoted 0 s) (plain (b ∷ s)))
    pick true = more-leaves (length s) (quoted 0 s) (quoted-leaves 0 s)
    pick false = plain-leaves (b ∷ s)

-- fewer bytes than so many behind a field with its comma, behind a row, behind a row that is a rule, behind the header
abbrev Under : ℕ → Field → Type 0
Under m (text t rest) = length rest < m
Under m Field.broken = Unit {0}

abbrev RowUnder : ℕ → Row → Type 0
RowUnder m (row k l r c rest) = length rest < m
RowUnder m Row.broken = Unit {0}

abbrev pub RuleUnder : ℕ → Rule → Type 0
RuleUnder m (joins e rest) = length rest < m
RuleUnder m (marks t rest) = length rest < m
RuleUnder m bad = Unit {0}

abbrev pub StartUnder : ℕ → Start → Type 0
StartUnder m (behind rest) = length rest < m
StartUnder m Start.none = Unit {0}

comma-under : (m : ℕ) (f : Field) → Leaves m f → Under m (comma f)
comma-under m (text t []) h = tt
comma-under m (text t (b ∷ rest)) h = pick (eqb b 44)
  where
    pick : (x : Bool) → Under m (cond x (text t rest) Field.broken)
    pick true = omega arith
    pick false = tt
comma-under m Field.broken h = tt

field-under : (s : List ℕ) → Under (length s) (comma (field_of s))
field-under s = comma-under (length s) (field_of s) (field-leaves s)

last-leaves : (m : ℕ) (f : Field) → Leaves m f → Leaves m (last f)
last-leaves m (text t rest) h = pick (eqb (length rest) 0) (eqb (get_or rest 0 0) 13) (eqb (get_or rest 1 0) 10)
  where
    pick : (x y z : Bool) → Leaves m (cond x (text t rest) (cond y (cond z (text t (drop 2 rest)) Field.broken) Field.broken))
    pick true y z = h
    pick false true true = omega (arith, length-drop 2 rest)
    pick false true false = tt
    pick false false z = tt
last-leaves m Field.broken h = tt

less-row : (m n : ℕ) (w : Row) → m ≤ n → RowUnder m w → RowUnder n w
less-row m n (row k l r c rest) h g = omega arith
less-row m n Row.broken h g = tt

on-comma : (m n : ℕ) (f : Field) (g : List ℕ → List ℕ → Row) → m ≤ n → Under m f → ((t rest : List ℕ) → RowUnder (suc (length rest)) (g t rest)) → RowUnder n (on_field f g Row.broken)
on-comma m n (text t rest) g h u k = less-row (suc (length rest)) n (g t rest) (omega arith) (k t rest)
on-comma m n Field.broken g h u k = tt

on-last : (m : ℕ) (f : Field) (k l r : List ℕ) → Leaves m f → RowUnder (suc m) (on_field f (λ c rest. row k l r c rest) Row.broken)
on-last m (text c rest) k l r h = omega arith
on-last m Field.broken k l r h = tt

row_under : (s : List ℕ) → RowUnder (length s) (row_of s)
unfolding row_by
row_under s =
    on-comma (length s) (length s) (comma (field_of s)) _ (omega arith) (field-under s) (λ k s₁.
    on-comma (length s₁) (suc (length s₁)) (comma (field_of s₁)) _ (omega arith) (field-under s₁) (λ l s₂.
    on-comma (length s₂) (suc (length s₂)) (comma (field_of s₂)) _ (omega arith) (field-under s₂) (λ r s₃.
    on-last (length s₃) (last (field_of s₃)) k l r (last-leaves (length s₃) (field_of s₃) (field-leaves s₃)))))

rule_row : (m : ℕ) (w : Row) → RowUnder m w → RuleUnder m (rule_of w)
unfolding rule_of
rule_row m (row k l r c rest) h = rule_made (RuleUnder m) tt rest k l r c (λ b x y z hx hy hz. h) (λ x z hx hz. h)
rule_row m Row.broken h = tt

pub rule_under : (s : List ℕ) → RuleUnder (length s) (rule_of (row_of s))
rule_under s = rule_row (length s) (row_of s) (row_under s)

start_row : (m : ℕ) (w : Row) → RowUnder m w → StartUnder m (header_of w)
unfolding header_of
start_row m (row k l r c rest) h = pick (same k kind_word) (same l left_word) (same r right_word) (same c citation_word)
  where
    pick : (x y z w : Bool) → StartUnder m (cond x (cond y (cond z (cond w (behind rest) Start.none) Start.none) Start.none) Start.none)
    pick true true true true = h
    pick true true true false = tt
    pick true true false w = tt
    pick true false z w = tt
    pick false y z w = tt
start_row m Row.broken h = tt

pub start_under : (s : List ℕ) → StartUnder (length s) (header_of (row_of s))
start_under s = start_row (length s) (row_of s) (row_under s)
