-- Two files that begin alike are read alike, as far as they do; and how far a record reaches.
use mathlib.Core.Path.{◌≡◌, refl, sym, ap, ap₂, ◌∙◌}
use mathlib.Core.Bool.{Bool, true, false, ◌&&◌, cond}
use mathlib.Core.List.{List, [], ◌∷◌}
use Prim.Native.Nat.{ℕ, zero, suc, ◌+◌, ◌*◌, ◌/◌, ◌%◌, ◌-◌, ◌≤◌, ◌<◌}
use native.Mathlib.Nat.{le_trans, mul-le-mul_right, suc-mul, zero-mul}
use native.Mathlib.Omega.{arith}
use lib.ListN.{length, get_or, length-append}
use lib.Dec.{eqb, ltb, leb}
use borrow.Author.Tests.{leb-true, ltb-true, ltb-false}
use Rattle.sets.specs.paper.Sets.{odd}
use Rattle.records.specs.paper.Fields.{Range, up_to, number, Shape, bytes, list, most, Read, got, bad, and_then, byte_at, bytes_at, repeat, little, field_at, fields_at, Format, no_format, Raw, format_of, record_at}
use Rattle.listing.specs.Rooms.{shape_most, shapes_most, record_most, longest_record}

-- what holds of a value and of the place behind it, if it was read
abbrev pub Ended : {A : Type 0} → (A → ℕ → Type 0) → Read A → Type 0
Ended Q (got a p) = Q a p
Ended Q bad = Unit {0}

pub record Alike {A : Type 0} (Q : A → ℕ → Type 0) (m m' : Read A) : Type 0 where
  pub same : m' ≡ m
  pub ended : Ended Q m

alike_then : {A B : Type 0} (Q : A → ℕ → Type 0) (R : B → ℕ → Type 0) (m m' : Read A) (f f' : A → ℕ → Read B) → Alike Q m m'
    → ((a : A) (p : ℕ) → Q a p → Alike R (f a p) (f' a p)) → Alike R (and_then m f) (and_then m' f')
alike_then {A} Q R (got a p) m' f f' h k = let n = k a p h.ended in record { same = ap (λ (m : Read A). and_then m f') h.same ∙ n.same; ended = n.ended }
alike_then {A} Q R bad m' f f' h k = record { same = ap (λ (m : Read A). and_then m f') h.same; ended = tt }

weaker : {A : Type 0} (Q R : A → ℕ → Type 0) (m m' : Read A) → Alike Q m m' → ((a : A) (p : ℕ) → Q a p → R a p) → Alike R m m'
weaker Q R (got a p) m' h k = record { same = h.same; ended = k a p h.ended }
weaker Q R bad m' h k = record { same = h.same; ended = tt }

-- the longest record is as long as each
pub longest : (fs : List Format) (i : ℕ) → i < length fs → record_most (get_or fs i no_format) ≤ longest_record fs
longest [] i h = absurd (omega arith)
longest (f ∷ fs) i h = pick (longest fs) i h (ltb (longest_record fs) (record_most f)) refl
  where
    pick : ((i : ℕ) → i < length fs → record_most (get_or fs i no_format) ≤ longest_record fs) → (i : ℕ) → i < length (f ∷ fs) → (b : Bool) → ltb (longest_record fs) (record_most f) ≡ b → record_most (get_or (f ∷ fs) i no_format) ≤ cond b (record_most f) (longest_record fs)
    pick ih zero h true e = omega arith
    pick ih zero h false e = ltb-false _ _ e
    pick ih (suc i) h true e = let l : record_most (get_or (f ∷ fs) (suc i) no_format) ≤ longest_record fs = ih i (omega arith) in let m : longest_record fs ≤ record_most f = (let n : longest_record fs < record_most f = ltb-true (longest_record fs) (record_most f) e in omega arith) in le_trans l m
    pick ih (suc i) h false e = ih i (omega arith)

pub longest-some : (fs : List Format) → 1 ≤ longest_record fs
longest-some [] = omega arith
longest-some (f ∷ fs) = pick (ltb (longest_record fs) (record_most f)) (longest-some fs)
  where
    pick : (b : Bool) → 1 ≤ longest_record fs → 1 ≤ cond b (record_most f) (longest_record fs)
    pick true h = omega arith
    pick false h = h

repeat-length : {A : Type 0} (k : ℕ) (rs : List A) → length (repeat k rs) ≡ k * length rs
unfolding repeat
repeat-length zero rs = sym (zero-mul (length rs))
repeat-length (suc k) rs = length-append rs (repeat k rs) ∙ ap (λ (n : ℕ). length rs + n) (repeat-length k rs) ∙ (let e = suc-mul k (length rs) in omega arith)

-- the first n bytes of both
pub record Begins (n : ℕ) (s t : List ℕ) : Type 0 where
  pub byte : (i : ℕ) → i < n → get_or t i 0 ≡ get_or s i 0
  pub there : (i : ℕ) → i < n → ltb i (length t) ≡ ltb i (length s)

-- a record's kind is one of those, and it ends where the longest of that kind would, or before
abbrev pub Reaches : List Format → ℕ → Raw → ℕ → Type 0
Reaches fs at r p = (1 ≤ r.kind) × (r.kind ≤ length fs) × (at < p) × (p ≤ at + record_most (format_of fs r.kind))

module _ (n : ℕ) (s t : List ℕ) (begins : Begins n s t) where
  byte_alike : (at : ℕ) (r : Range) → at < n → Alike (λ b p. (r.low ≤ b) × (b ≤ r.top) × (p ≡ at + 1)) (byte_at s at r) (byte_at t at r)
  unfolding byte_at
  byte_alike at r h = record {
    same = ap₂ (λ (b : Bool) (x : ℕ). cond b (cond (leb r.low x && leb x r.top) (got x (at + 1)) bad) bad) (begins.there at h) (begins.byte at h);
    ended = pick (ltb at (length s)) (leb r.low x) (leb x r.top) refl refl;
  }
    where
      x : ℕ
      x = get_or s at 0

      pick : (b l h : Bool) → leb r.low x ≡ l → leb x r.top ≡ h
          → Ended (λ b p. (r.low ≤ b) × (b ≤ r.top) × (p ≡ at + 1)) (cond b (cond (l && h) (got x (at + 1)) bad) bad)
      pick true true true e g = (leb-true _ _ e, leb-true _ _ g, refl)
      pick true true false e g = tt
      pick true false h e g = tt
      pick false l h e g = tt

  bytes_alike : (rs : List Range) (at : ℕ) → at + length rs ≤ n → Alike (λ v p. p ≡ at + length rs) (bytes_at s at rs) (bytes_at t at rs)
  unfolding bytes_at
  bytes_alike [] at h = record { same = refl; ended = omega arith }
  bytes_alike (r ∷ rs) at h =
      alike_then _ _ _ _ _ _ (byte_alike at r (omega arith)) (λ b p e.
      alike_then _ _ _ _ _ _ (bytes_alike rs p (let f = e.2 in omega arith)) (λ bs q g.
      record { same = refl; ended = let f = e.2 in omega arith }))

  field_alike : (f : Shape) (at : ℕ) → at + shape_most f ≤ n → Alike (λ v p. (at ≤ p) × (p ≤ at + shape_most f)) (field_at s at f) (field_at t at f)
  unfolding field_at
  field_alike (bytes rs) at h = weaker _ _ _ _ (bytes_alike rs at h) (λ v p e. (omega arith, omega arith))
  field_alike (list m rs) at h =
      alike_then _ _ _ _ _ _ (byte_alike at (up_to m) (omega arith)) (λ k p e.
      let fits = mul-le-mul_right (length rs) e.1 in
      let long = repeat-length k rs in
      let next = e.2 in
      weaker _ _ _ _ (bytes_alike (repeat k rs) p (omega arith)) (λ v q g. (omega arith, omega arith)))
  field_alike most at h =
      alike_then _ _ _ _ _ _ (bytes_alike (number ∷ number ∷ []) at h) (λ bs p e. record { same = refl; ended = pick bs p (omega arith) (omega arith) (leb (little bs) 4096) })
    where
      pick : (bs : List ℕ) (p : ℕ) → at ≤ p → p ≤ at + 2 → (b : Bool) → Ended (λ v p. (at ≤ p) × (p ≤ at + 2)) (cond b (got bs p) bad)
      pick bs p l m true = (l, m)
      pick bs p l m false = tt

  given_alike : (b : Bool) (f : Shape) (at : ℕ) → at + shape_most f ≤ n
      → Alike (λ v p. (at ≤ p) × (p ≤ at + shape_most f)) (cond b (field_at s at f) (got [] at)) (cond b (field_at t at f) (got [] at))
  given_alike true f at h = field_alike f at h
  given_alike false f at h = record { same = refl; ended = (omega arith, omega arith) }

  fields_alike : (fs : List Shape) (at bits : ℕ) → at + shapes_most fs ≤ n → Alike (λ v p. (at ≤ p) × (p ≤ at + shapes_most fs)) (fields_at s at bits fs) (fields_at t at bits fs)
  unfolding fields_at
  fields_alike [] at bits h = record { same = refl; ended = pick (eqb bits 0) }
    where
      pick : (b : Bool) → Ended {A = List (List ℕ)} (λ v p. (at ≤ p) × (p ≤ at + 0)) (cond b (got [] at) bad)
      pick true = (omega arith, omega arith)
      pick false = tt
  fields_alike (f ∷ fs) at bits h =
      alike_then _ _ _ _ _ _ (given_alike (odd (bits % 2)) f at (omega arith)) (λ v p e.
      let low = e.0 in
      let top = e.1 in
      alike_then _ _ _ _ _ _ (fields_alike fs p (bits / 2) (omega arith)) (λ vs q g.
      record { same = refl; ended = (let l = g.0 in omega arith, let m = g.1 in omega arith) }))

  pub record_alike : (fs : List Format) (at : ℕ) → at + longest_record fs ≤ n → Alike (Reaches fs at) (record_at fs s at) (record_at fs t at)
  unfolding record_at
  record_alike fs at h =
      let some = longest-some fs in
      alike_then _ _ _ _ _ _ (byte_alike at (record { low = 1; top = length fs }) (omega arith)) (λ kind p e.
      let low = e.0 in
      let top = e.1 in
      let next = e.2 in
      let reach = longest fs (kind - 1) (omega arith) in
      alike_then _ _ _ _ _ _ (byte_alike p number (omega arith)) (λ bits q g.
      let after = g.2 in
      alike_then _ _ _ _ _ _ (fields_alike (format_of fs kind).fields q bits (omega arith)) (λ vs w i.
      let l = i.0 in
      let m = i.1 in
      record { same = refl; ended = (low, top, omega arith, omega arith) })))
