-- The fields of a record, one after another: what is read when each is, and that nothing is when one is not.
use mathlib.Core.Path.{◌≡◌, refl, sym, ap, ◌∙◌}
use mathlib.Core.Bool.{Bool, true, false, cond}
use mathlib.Core.List.{List, [], ◌∷◌}
use Prim.Native.Nat.{ℕ, zero, suc, ◌*◌, ◌/◌, ◌%◌, ◌≤◌, ◌<◌}
use native.Mathlib.Nat.{mod-lt, zero-lt-suc, not-suc-le-zero, le_of_suc-le-suc}
use native.Mathlib.Omega.{arith}
use lib.ListN.{length}
use lib.Dec.{eqb, leb}
use borrow.Author.Tests.{eq-eqb, ne_eqb}
use Rattle.sets.specs.paper.Sets.{odd}
use Rattle.records.specs.paper.Fields.{Shape, bytes, list, most, number, Read, got, bad, and_then, Raw, Format, Range, byte_at, bytes_at, field_at, fields_at, format_of, repeat, little}
use Rattle.records.specs.code.Readers.{map_read, field_if, first, bytes_from}
use Rattle.records.specs.code.Decoded.{if_given}
use Rattle.records.specs.code.Passes.{raw_of}
use Rattle.records.proofs.Reading.{byte_next, bytes-got, bad-got, got_inj, found}

-- the test `m % 2 == 1`
pub odd_test : (d : ℕ) → d < 2 → eqb d 1 ≡ odd d
odd_test zero h = refl
odd_test (suc zero) h = refl
odd_test (suc (suc d)) h = absurd (not-suc-le-zero (le_of_suc-le-suc (le_of_suc-le-suc h)))

module _ (s : List ℕ) (at m n : ℕ) (half : n ≡ m / 2) (f : Shape) (fs : List Shape) where
  opened : (x : Read (List ℕ)) → field_if (eqb (m % 2) 1) s at f ≡ x → fields_at s at m (f ∷ fs) ≡ and_then x (λ v p. and_then (fields_at s p n fs) (λ vs q. got (v ∷ vs) q))
  unfolding fields_at
  opened x e = rw (half, ← odd_test (m % 2) (mod-lt m (zero-lt-suc 1)), e)

  pub more : {v : List ℕ} {p q : ℕ} {vs : List (List ℕ)} → field_if (eqb (m % 2) 1) s at f ≡ got v p → fields_at s p n fs ≡ got vs q → fields_at s at m (f ∷ fs) ≡ got (v ∷ vs) q
  more {v = v} {p = p} e h = opened (got v p) e ∙ ap (λ x. and_then x (λ vs q. got (v ∷ vs) q)) h

  pub skip : {v : List ℕ} {p : ℕ} → field_if (eqb (m % 2) 1) s at f ≡ got v p → fields_at s p n fs ≡ bad → fields_at s at m (f ∷ fs) ≡ bad
  skip {v = v} {p = p} e h = opened (got v p) e ∙ ap (λ x. and_then x (λ vs q. got (v ∷ vs) q)) h

  pub stop : field_if (eqb (m % 2) 1) s at f ≡ bad → fields_at s at m (f ∷ fs) ≡ bad
  stop e = opened bad e

pub last : (s : List ℕ) (at m : ℕ) → m ≡ 0 → fields_at s at m [] ≡ got [] at
unfolding fields_at
last s at m e = rw (eq-eqb m 0 e)

pub unknown : (s : List ℕ) (at m : ℕ) → (m ≡ 0 → ⊥) → fields_at s at m [] ≡ bad
unfolding fields_at
unknown s at m e = rw (ne_eqb m 0 e)

-- a record from its bit map on
module _ (formats : List Format) (kind : ℕ) (s : List ℕ) (at : ℕ) where
  pub raw_got : {b p q : ℕ} {vs : List (List ℕ)} → byte_at s at number ≡ got b p → fields_at s p b (format_of formats kind).fields ≡ got vs q
      → raw_of formats kind s at ≡ got (record { kind = kind; bits = b; fields = vs }) q
  raw_got e f = rw (e, f)

  pub raw_bits : byte_at s at number ≡ bad → raw_of formats kind s at ≡ bad
  raw_bits e = rw e

  pub raw_bad : {b p : ℕ} → byte_at s at number ≡ got b p → fields_at s p b (format_of formats kind).fields ≡ bad → raw_of formats kind s at ≡ bad
  raw_bad e f = rw (e, f)

-- a bit without a field
pub no_field : (s : List ℕ) (at : ℕ) (b : Bool) → field_if b s at (bytes []) ≡ got [] at
unfolding field_at bytes_at
no_field s at true = refl
no_field s at false = refl

pub half_of : (b w : ℕ) → b / (w * 2) ≡ b / w / 2
half_of b w = sym (native.Mathlib.Nat.div-div-eq-div-mul b w 2)

-- ---- where a record that was read ends

field_next : (s : List ℕ) (at : ℕ) (f : Shape) {v : List ℕ} {p : ℕ} → field_at s at f ≡ got v p → at ≤ p
unfolding field_at
field_next s at (bytes rs) = λ e. let h = (bytes-got s at rs e).1 in omega (arith, h)
field_next s at (list n rs) {v = v} {p = p} = pick (byte_at s at (record { low = 0; top = n })) refl
  where
    pick : (x : Read ℕ) → byte_at s at (record { low = 0; top = n }) ≡ x → and_then x (λ k p. bytes_at s p (repeat k rs)) ≡ got v p → at ≤ p
    pick (got k q) h e = let i = (bytes-got s q (repeat k rs) e).1 in omega (arith, (byte_next s at (record { low = 0; top = n }) h).1, i)
    pick bad h e = bad-got e
field_next s at most {v = v} {p = p} = pick (bytes_at s at (number ∷ number ∷ [])) refl
  where
    test_of : (b : Bool) (bs : List ℕ) (q : ℕ) → cond b (got bs q) bad ≡ got v p → q ≡ p
    test_of true bs q e = (got_inj e).1
    test_of false bs q e = bad-got e

    pick : (x : Read (List ℕ)) → bytes_at s at (number ∷ number ∷ []) ≡ x → and_then x (λ bs p. cond (leb (little bs) 4096) (got bs p) bad) ≡ got v p → at ≤ p
    pick (got bs q) h e = let i = (bytes-got s at (number ∷ number ∷ []) h).1 in omega (arith, test_of (leb (little bs) 4096) bs q e, i)
    pick bad h e = bad-got e

module _ (s : List ℕ) (at m : ℕ) (f : Shape) (fs : List Shape) {vs : List (List ℕ)} {p : ℕ} (later : (q : ℕ) (ws : List (List ℕ)) (r : ℕ) → fields_at s q (m / 2) fs ≡ got ws r → q ≤ r) where
  inner : (v : List ℕ) (q : ℕ) → at ≤ q → (x : Read (List (List ℕ))) → fields_at s q (m / 2) fs ≡ x → and_then x (λ ws r. got (v ∷ ws) r) ≡ got vs p → at ≤ p
  inner v q l (got ws r) h e = let i = later q ws r h in omega (arith, (got_inj e).1, i, l)
  inner v q l bad h e = bad-got e

  first_of : (x : Read (List ℕ)) → ((v : List ℕ) (q : ℕ) → x ≡ got v q → at ≤ q) → and_then x (λ v q. and_then (fields_at s q (m / 2) fs) (λ ws r. got (v ∷ ws) r)) ≡ got vs p → at ≤ p
  first_of (got v q) h e = inner v q (h v q refl) (fields_at s q (m / 2) fs) refl e
  first_of bad h e = bad-got e

  outer : (b : Bool) → and_then (cond b (field_at s at f) (got [] at)) (λ v q. and_then (fields_at s q (m / 2) fs) (λ ws r. got (v ∷ ws) r)) ≡ got vs p → at ≤ p
  outer true e = first_of (field_at s at f) (λ v q h. field_next s at f h) e
  outer false e = inner [] at (native.Mathlib.Nat.le_refl at) (fields_at s at (m / 2) fs) refl e

pub fields-next : (s : List ℕ) (at m : ℕ) (fs : List Shape) {vs : List (List ℕ)} {p : ℕ} → fields_at s at m fs ≡ got vs p → at ≤ p
unfolding fields_at
fields-next s at m [] {vs = vs} {p = p} = pick (eqb m 0)
  where
    pick : (b : Bool) → cond b (got [] at) bad ≡ got vs p → at ≤ p
    pick true e = let h = (got_inj e).1 in omega (arith, h)
    pick false e = bad-got e
fields-next s at m (f ∷ fs) = outer s at m f fs (λ q ws r h. fields-next s q (m / 2) fs h) (odd (m % 2))

abbrev pub raw : ℕ → ℕ → List (List ℕ) → Raw
raw kind b vs = record { kind = kind; bits = b; fields = vs }

pub record Parts (kind : ℕ) (s : List ℕ) (at : ℕ) (w : Raw) (p : ℕ) : Type 0 where
  pub is : w ≡ raw kind w.bits w.fields
  pub later : at < p

pub raw_parts : (formats : List Format) (kind : ℕ) (s : List ℕ) (at : ℕ) {w : Raw} {p : ℕ} → raw_of formats kind s at ≡ got w p → Parts kind s at w p
raw_parts formats kind s at {w = w} {p = p} = outer (byte_at s at number) refl
  where
    fs : List Shape
    fs = (format_of formats kind).fields

    inner : (b q : ℕ) → at < q → (x : Read (List (List ℕ))) → fields_at s q b fs ≡ x → and_then x (λ vs r. got (raw kind b vs) r) ≡ got w p → Parts kind s at w p
    inner b q l (got vs r) h e =
        let i = fields-next s q b fs h in
        let k = (got_inj e).0 in
        record { is = sym k ∙ ap (λ (z : Raw). raw kind z.bits z.fields) k; later = omega (arith, (got_inj e).1, i, l) }
    inner b q l bad h e = bad-got e

    outer : (x : Read ℕ) → byte_at s at number ≡ x → and_then x (λ b q. and_then (fields_at s q b fs) (λ vs r. got (raw kind b vs) r)) ≡ got w p → Parts kind s at w p
    outer (got b q) h e = let i = byte_next s at number h in inner b q (omega (arith, i.1)) (fields_at s q b fs) refl e
    outer bad h e = bad-got e

-- ---- what an optional field's bytes are

pub one-given : (s : List ℕ) (at : ℕ) (b : Bool) (r : Range) {bs : List ℕ} {n v : ℕ} → field_if b s at (bytes (r ∷ [])) ≡ got bs n → first bs ≡ v → bs ≡ if_given b v
unfolding field_at bytes_from
one-given s at true r e f = let h = (bytes-got s at (r ∷ []) e).0 in h ∙ ap (λ (x : ℕ). x ∷ []) (sym (ap first h) ∙ f)
one-given s at false r e f = sym (got_inj e).0

-- and the same of an answer
pub given_of : (b : Bool) (s : List ℕ) (at : ℕ) (r : Range) {v p : ℕ} → map_read first (field_if b s at (bytes (r ∷ []))) ≡ got v p → field_if b s at (bytes (r ∷ [])) ≡ got (if_given b v) p
given_of b s at r {p = p} e =
    let f = found first (field_if b s at (bytes (r ∷ []))) e in f.is ∙ ap (λ (bs : List ℕ). got bs p) (one-given s at b r f.is f.means)

pub list-absent : (s : List ℕ) (at p k : ℕ) (b : Bool) (f : Shape) {n : ℕ} → got (bytes_from s p k) n ≡ field_if b s at f → b ≡ false → k ≡ 0
unfolding bytes_from
list-absent s at p k b f e q = pick k (got_inj (e ∙ ap (λ (t : Bool). field_if t s at f) q)).0
  where
    pick : (k : ℕ) → bytes_from s p k ≡ [] → k ≡ 0
    pick zero h = refl
    pick (suc k) h = let z = ap length h in absurd (omega (arith, z))
