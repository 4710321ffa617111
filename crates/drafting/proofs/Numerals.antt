-- The numbers that a table may hold are just those that are written in base ten without leading zeros, in their range.
use mathlib.Core.Path.{◌≡◌, refl, sym, ap, ◌∙◌}
use mathlib.Core.Bool.{Bool, true, false, cond}
use mathlib.Core.List.{List, [], ◌∷◌, ◌++◌, append-nil, append_assoc}
use Prim.Native.Nat.{ℕ, zero, suc, ◌+◌, ◌*◌, ◌-◌, ◌/◌, ◌%◌, ◌≤◌, ◌<◌}
use native.Mathlib.Omega.{arith}
use lib.Dec.{eqb, ltb, leb}
use borrow.Author.Tests.{ltb-true, ltb-false, leb-true, le-leb, eqb-false, ne_eqb, not-true}
use Rattle.page.specs.Decimal.{digit, decimal}
use Rattle.page.proofs.DecimalLaws.{decimal-low, decimal_high}
use Rattle.spreadsheet.specs.paper.Numerals.{Number, is, digits, value_from, leads, decimal_from, number_of}
use Rattle.drafting.proofs.MadeRules.{number_range}

-- ---- what is read is written so

-- digits begin with one
record First (b : ℕ) (t : List ℕ) : Type 0 where
  low : 48 ≤ b
  high : b ≤ 57
  others : digits t ≡ true

digits-first : (b : ℕ) (t : List ℕ) → digits (b ∷ t) ≡ true → First b t
unfolding digits
digits-first b t e = pick (leb 48 b) refl (leb b 57) refl e
  where
    pick : (x : Bool) → leb 48 b ≡ x → (y : Bool) → leb b 57 ≡ y → cond x (cond y (digits t) false) false ≡ true → First b t
    pick true u true v e = record { low = leb-true 48 b u; high = leb-true b 57 v; others = e }
    pick true u false v e = absurd (let z : ◌≡◌ {A = ℕ} 0 1 = cc in omega arith)
    pick false u y v e = absurd (let z : ◌≡◌ {A = ℕ} 0 1 = cc in omega arith)

-- digits behind a number that is not 0
digits-behind : (m : ℕ) (t : List ℕ) → 1 ≤ m → digits t ≡ true → decimal (value_from m t) ≡ decimal m ++ t
unfolding value_from
digits-behind m [] h d = sym (append-nil (decimal m))
digits-behind m (b ∷ t) h d =
    let f = digits-first b t d in
    let l = f.low in
    let u = f.high in
    let tenth : (10 * m + (b - 48)) / 10 ≡ m = omega arith in
    let unit : 48 + (10 * m + (b - 48)) % 10 ≡ b = omega arith in
    let last : decimal (10 * m + (b - 48)) ≡ decimal m ++ (b ∷ []) = rw (decimal_high (10 * m + (b - 48)) (omega arith), tenth, unit) in
    digits-behind (10 * m + (b - 48)) t (omega arith) f.others
    ∙ ap (λ (s : List ℕ). s ++ t) last
    ∙ append_assoc (decimal m) (b ∷ []) t

digit-first : (b : ℕ) → 48 ≤ b → b ≤ 57 → decimal (b - 48) ≡ b ∷ []
digit-first b l u = let e : 48 + (b - 48) ≡ b = omega arith in decimal-low (b - 48) (omega arith) ∙ ap (λ (d : ℕ). d ∷ []) e

digits-whole : (t : List ℕ) → leads t ≡ true → digits t ≡ true → t ≡ decimal (value_from 0 t)
unfolding value_from
digits-whole [] e d = absurd (let z : ◌≡◌ {A = ℕ} 0 1 = cc in omega arith)
digits-whole (b ∷ []) e d =
    let f = digits-first b [] d in
    let v : 10 * 0 + (b - 48) ≡ b - 48 = omega arith in
    rw v (sym (digit-first b f.low f.high))
digits-whole (b ∷ c ∷ t) e d =
    let f = digits-first b (c ∷ t) d in
    let l = f.low in
    let v : 10 * 0 + (b - 48) ≡ b - 48 = omega arith in
    let more : 1 ≤ 10 * 0 + (b - 48) = omega (arith, eqb-false b 48 (not-true (eqb b 48) e)) in
    sym (digits-behind (10 * 0 + (b - 48)) (c ∷ t) more f.others ∙ ap (λ (s : List ℕ). s ++ (c ∷ t)) (ap decimal v ∙ digit-first b f.low f.high))

-- a field that is read as n is n in base ten, without leading zeros
pub numeral_only : (top : ℕ) (t : List ℕ) (n : ℕ) → number_of top t ≡ is n → (t ≡ decimal n) × (n ≤ top)
unfolding number_of decimal_from
numeral_only top t n e = (pick (leads t) refl (digits t) refl (leb (value_from 0 t) top) e, number_range top t n e)
  where
    pick : (a : Bool) → leads t ≡ a → (b : Bool) → digits t ≡ b → (c : Bool) → cond a (cond b (cond c (is (value_from 0 t)) Number.none) Number.none) Number.none ≡ is n → t ≡ decimal n
    pick true h true d true e = let v : value_from 0 t ≡ n = cc in digits-whole t h d ∙ ap decimal v
    pick true h true d false e = absurd (let z : ◌≡◌ {A = ℕ} 0 1 = cc in omega arith)
    pick true h false d c e = absurd (let z : ◌≡◌ {A = ℕ} 0 1 = cc in omega arith)
    pick false h b d c e = absurd (let z : ◌≡◌ {A = ℕ} 0 1 = cc in omega arith)

-- ---- what is written so is read

value_append : (m : ℕ) (s t : List ℕ) → value_from m (s ++ t) ≡ value_from (value_from m s) t
unfolding value_from
value_append m [] t = refl
value_append m (b ∷ s) t = value_append (10 * m + (b - 48)) s t

digits_append : (s t : List ℕ) → digits s ≡ true → digits t ≡ true → digits (s ++ t) ≡ true
unfolding digits
digits_append [] t d e = e
digits_append (b ∷ s) t d e =
    let f = digits-first b s d in
    rw (le-leb 48 b f.low, le-leb b 57 f.high) (digits_append s t f.others e)

digit-digits : (d : ℕ) → d < 10 → digits (digit d ∷ []) ≡ true
unfolding digits
digit-digits d h = rw (le-leb 48 (48 + d) (omega arith), le-leb (48 + d) 57 (omega arith))

-- a number as it is written; one that is not 0 begins with no 0
record WellWritten (n : ℕ) : Type 0 where
  all : digits (decimal n) ≡ true
  value : value_from 0 (decimal n) ≡ n
  start : 1 ≤ n → (b : ℕ) × (t : List ℕ) × (decimal n ≡ b ∷ t) × (b ≡ 48 → ⊥)

written_low : (n : ℕ) → n < 10 → WellWritten n
unfolding value_from
written_low n h = record {
  all = rw (decimal-low n h) (digit-digits n h);
  value = rw (decimal-low n h) (omega arith);
  start = λ l. (digit n, [], decimal-low n h, λ (e : digit n ≡ 48). omega arith);
}

written_high : (n : ℕ) → 10 ≤ n → WellWritten (n / 10) → WellWritten n
unfolding value_from
written_high n h w = record {
  all = rw e (digits_append (decimal (n / 10)) (digit (n % 10) ∷ []) w.all (digit-digits (n % 10) (omega arith)));
  value = rw (e, value_append 0 (decimal (n / 10)) (digit (n % 10) ∷ []), w.value) (omega arith);
  start = λ l. let (b, t, q, z) = w.start (omega arith) in (b, t ++ (digit (n % 10) ∷ []), e ∙ ap (λ (s : List ℕ). s ++ (digit (n % 10) ∷ [])) q, z);
}
  where
    e : decimal n ≡ decimal (n / 10) ++ (digit (n % 10) ∷ [])
    e = decimal_high n h

written : (k n : ℕ) → n ≤ k → WellWritten n
written zero n h = written_low n (omega arith)
written (suc k) n h = pick (ltb n 10) refl (λ m l. written k m l)
  where
    pick : (b : Bool) → ltb n 10 ≡ b → ((m : ℕ) → m ≤ k → WellWritten m) → WellWritten n
    pick true e go = written_low n (ltb-true n 10 e)
    pick false e go = written_high n (ltb-false n 10 e) (go (n / 10) (omega (arith, ltb-false n 10 e)))

leads-more : (b : ℕ) (t : List ℕ) → (b ≡ 48 → ⊥) → leads (b ∷ t) ≡ true
leads-more b [] h = refl
leads-more b (c ∷ t) h = rw (ne_eqb b 48 h)

written-leads : (n : ℕ) → WellWritten n → leads (decimal n) ≡ true
written-leads n w = pick (ltb n 10) refl
  where
    pick : (b : Bool) → ltb n 10 ≡ b → leads (decimal n) ≡ true
    pick true e = rw (decimal-low n (ltb-true n 10 e))
    pick false e = let (b, t, q, z) = w.start (omega (arith, ltb-false n 10 e)) in rw q (leads-more b t z)

-- and every number in the range is read from its own field
pub numeral_all : (top n : ℕ) → n ≤ top → number_of top (decimal n) ≡ is n
unfolding number_of decimal_from
numeral_all top n h =
    let w = written n n (omega arith) in
    rw (written-leads n w, w.all, w.value, le-leb n top h)
